-- The line of an answer, spelt piece by piece behind nothing.
use Prim.Native.Nat.{ℕ}
use mathlib.Core.Path.{◌≡◌, ap, ◌∙◌}
use mathlib.Core.List.{List, [], ◌++◌, append_assoc}
use Rattle.std.specs.Prelude.{codes, decimal}
use Rattle.notes.specs.Check.{Cheapest, Nothing, Refused}
use Rattle.verdict.specs.Line.{line}

-- w behind what is x
pub behind : {a b x : List ℕ} (w : List ℕ) → a ≡ x → b ≡ a ++ w → b ≡ x ++ w
behind w e f = f ∙ ap (λ (l : List ℕ). l ++ w) e

module _ {l₀ l₁ : List ℕ} (begin : l₀ ≡ []) where
  pub line-nothing : l₁ ≡ l₀ ++ codes "none\n" → l₁ ≡ line Nothing
  unfolding line
  line-nothing a = behind (codes "none\n") begin a

  module _ {l₂ l₃ : List ℕ} where
    pub line-cheapest : (cost : ℕ) → l₁ ≡ l₀ ++ codes "cheapest " → l₂ ≡ l₁ ++ decimal cost → l₃ ≡ l₂ ++ codes "\n" → l₃ ≡ line (Cheapest cost)
    unfolding line
    line-cheapest cost a b c = behind (codes "\n") (behind (decimal cost) (behind (codes "cheapest ") begin a) b) c

    pub line-refused : {l₄ l₅ : List ℕ} (number paper : ℕ) → l₁ ≡ l₀ ++ codes "refused " → l₂ ≡ l₁ ++ decimal paper → l₃ ≡ l₂ ++ codes " "
        → l₄ ≡ l₃ ++ decimal number → l₅ ≡ l₄ ++ codes "\n" → l₅ ≡ line (Refused number paper)
    unfolding line
    line-refused number paper a b c d e =
        let p = decimal paper in
        let n = decimal number in
        let whole = behind (codes "\n") (behind n (behind (codes " ") (behind p (behind (codes "refused ") begin a) b) c) d) e in
        whole
        ∙ append_assoc (((codes "refused " ++ p) ++ codes " ")) n (codes "\n")
        ∙ append_assoc (codes "refused " ++ p) (codes " ") (n ++ codes "\n")
        ∙ append_assoc (codes "refused ") p (codes " " ++ (n ++ codes "\n"))

pub ruleset line_laws = (line-nothing, line-cheapest, line-refused)
