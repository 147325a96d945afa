-- The limits of a job and a plan, and the widths of their fields in bits.
use Rattle.std.specs.Prelude.{ℕ, ◌+◌, ◌*◌}

-- ---- limits

-- operations
abbrev pub max_ops : ℕ
max_ops = 24

abbrev pub max_links : ℕ
max_links = 64

-- unit types
abbrev pub max_types : ℕ
max_types = 8

-- copies of one type, and of all together
abbrev pub max_copies : ℕ
max_copies = 7

abbrev pub max_insts : ℕ
max_insts = 16

-- the number of an instance in a row
abbrev pub max_inst : ℕ
max_inst = 15

-- kinds of operation, and the number of one
abbrev pub kind_count : ℕ
kind_count = 8

abbrev pub max_kind : ℕ
max_kind = 7

-- the deadline, and a start
abbrev pub max_steps : ℕ
max_steps = 31

-- clock, wire, times and intervals, in ns
abbrev pub max_time : ℕ
max_time = 1023

-- a selection's cell: 1 selected, 0 not
abbrev pub max_select : ℕ
max_select = 1

-- ---- cells of a record's tables

abbrev pub op_cells : ℕ
op_cells = 24

abbrev pub link_cells : ℕ
link_cells = 64

abbrev pub type_cells : ℕ
type_cells = 8

abbrev pub inst_cells : ℕ
inst_cells = 16

-- times and intervals: kind k of type y has cell kind_count * y + k
abbrev pub pair_cells : ℕ
pair_cells = type_cells * kind_count

-- ---- widths

abbrev pub form_bits : ℕ
form_bits = 4

-- N, and an operation's number
abbrev pub op_bits : ℕ
op_bits = 5

-- E
abbrev pub link_count_bits : ℕ
link_count_bits = 7

-- M
abbrev pub type_count_bits : ℕ
type_count_bits = 4

-- K
abbrev pub inst_count_bits : ℕ
inst_count_bits = 5

-- T, and a start
abbrev pub step_bits : ℕ
step_bits = 5

abbrev pub time_bits : ℕ
time_bits = 10

abbrev pub kind_bits : ℕ
kind_bits = 3

abbrev pub cost_bits : ℕ
cost_bits = 16

abbrev pub copies_bits : ℕ
copies_bits = 3

abbrev pub select_bits : ℕ
select_bits = 1

abbrev pub inst_bits : ℕ
inst_bits = 4

-- ---- positions in a job's header: form, N, E, M, T, clock, wire

abbrev pub n_at : ℕ
n_at = form_bits

abbrev pub e_at : ℕ
e_at = n_at + op_bits

abbrev pub m_at : ℕ
m_at = e_at + link_count_bits

abbrev pub t_at : ℕ
t_at = m_at + type_count_bits

abbrev pub clock_at : ℕ
clock_at = t_at + step_bits

abbrev pub wire_at : ℕ
wire_at = clock_at + time_bits

-- its end
abbrev pub job_head : ℕ
job_head = wire_at + time_bits

-- ---- a job's groups

abbrev pub link_bits : ℕ
link_bits = op_bits + op_bits

-- time and interval of one kind
abbrev pub pair_bits : ℕ
pair_bits = time_bits + time_bits

-- a type's fields before its pairs
abbrev pub type_head : ℕ
type_head = cost_bits + copies_bits

abbrev pub type_bits : ℕ
type_bits = type_head + pair_bits * kind_count

-- ---- a plan's header: form, N, K; and a row

abbrev pub k_at : ℕ
k_at = n_at + op_bits

abbrev pub plan_head : ℕ
plan_head = k_at + inst_count_bits

abbrev pub row_bits : ℕ
row_bits = step_bits + inst_bits

-- ---- forms

abbrev pub job_form : ℕ
job_form = 1

abbrev pub plan_form : ℕ
plan_form = 2
