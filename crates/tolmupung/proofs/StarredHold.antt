-- The starred cases hold, by computation on the bytes.
use mathlib.Core.Path.{refl}
use Rattle.basics.specs.Counting.{all_to, any_to, sum_to, only}
use Rattle.basics.specs.Faults.{◌or_else◌, fault_unless, first}
use Rattle.basics.specs.Tables.{filled, within, blank}
use Rattle.bits.specs.Bits.{bit, field, bytes_of}
use Rattle.bits.specs.Sheet.{total, number, pack, many}
use Rattle.sheets.specs.Answers.{if_room, written, output}
use Rattle.sheets.specs.Groups.{runs_out, form_fault, fill_fault}
use Rattle.sheets.specs.JobRecord.{job_counts_fault, ascends, link_fault, pair_sound, type_fault}
use Rattle.sheets.specs.JobSheet.{job_of, job_head_fault, link_group, type_group, job_tables_fault, job_body_fault, job_fault, job_answer, read_job}
use Rattle.sheets.specs.PlanSheet.{plan_of, plan_counts_fault, plan_head_fault, plan_body_fault, plan_fault, plan_answer, read_plan, plan_fits, plan_record_fault, plan_sheet, write_plan, plan_out}
use Rattle.rules.specs.Model.{behind, type_at, types_in, in_steps, timing_in}
use Rattle.rules.specs.Selection.{order_at, order_ok, cost_at, selection_cost}
use Rattle.rules.specs.Rules.{finish, row_fault, row_fault_at, rows_fault, joins, precedes, link_ok, precedence_ok, apart, share_ok, beside_ok, resource_ok, same_step, carried, raised, raised_if, brings, brought_by, run_ok, chains_ok}
use Rattle.rules.specs.Judge.{counts_fault, placing_fault, fault_with, judge_fault, plan_cost, pass_or, judged_with, judged, if_read, judge_with, judge}
use Rattle.placing.specs.Bound.{each, walk}
use Rattle.placing.specs.Board.{last_start, nearer_if, nearer, nearest, board_of}
use Rattle.placing.specs.Placing.{row_ok, live, wants_in, needed_in, cost, smallest_in}
use Rattle.placing.specs.Options.{options_at, options_from, keep_if, live_ones, children}
use Rattle.search.specs.Search.{walked, wrote, answered, search_job, out_if, search_job_out, if_read as if_job_read, search as search_of, out_if_read, search_out}
use Rattle.tolmupung.specs.Starred.{Hold, starred}

pub starred-hold : Hold starred
unfolding read_job job_answer job_fault job_head_fault job_body_fault job_tables_fault link_group type_group job_counts_fault link_fault ascends type_fault pair_sound job_of read_plan plan_answer plan_fault plan_head_fault plan_body_fault plan_counts_fault plan_of runs_out form_fault fill_fault fault_unless ◌or_else◌ first all_to any_to sum_to only filled within blank field bit behind type_at types_in in_steps timing_in order_at order_ok cost_at selection_cost finish row_fault row_fault_at rows_fault joins precedes link_ok precedence_ok apart share_ok beside_ok resource_ok same_step carried raised raised_if brings brought_by run_ok chains_ok counts_fault placing_fault judge_fault plan_cost fault_with pass_or judged_with judged if_read judge_with judge bytes_of total number pack many if_room written output plan_fits plan_record_fault plan_sheet write_plan plan_out each walk last_start nearer_if nearer nearest board_of row_ok live wants_in needed_in cost smallest_in options_at options_from keep_if live_ones children walked wrote answered search_job out_if search_job_out if_job_read search_of out_if_read search_out
starred-hold = (refl, refl, (refl, refl, (refl, refl, (refl, refl, (refl, refl, (refl, refl, (refl, refl, (refl, refl, (refl, refl, (refl, refl, (refl, refl, (refl, refl, (refl, refl, tt)))))))))))))
