-- The occurrences of rules in a text, and lists of them: what a search is to find, in words of the rules and the text alone. A text is in reading order
-- here; the other definitions read one with its latest byte first, so they are handed `reverse text`. Assumes nothing.
use Rattle.std.specs.Prelude.{◌≡◌, ◌⊎◌, ◌↔◌, true, List, [], ℕ, ◌+◌, ◌-◌, ◌*◌, ◌≤◌, ◌<◌, length, get_or}
use Rattle.meaning.specs.Rules.{Rules, count, size, symbol, fits}

-- ---- one occurrence

-- Rule k occurs in the text and ends after e bytes: it has at least one symbol and at most e, and each symbol is the byte there or a picture that holds it.
pub record Occurs (r : Rules) (text : List ℕ) (e k : ℕ) : Type 0 where
  pub rule : k < count r
  pub some : 1 ≤ size r k
  pub starts : size r k ≤ e
  pub ends : e ≤ length text
  pub each : (i : ℕ) → i < size r k → fits r (get_or text (e - size r k + i) 0) (symbol r k i) ≡ true

-- Rule k fits the whole frame: it has at least one symbol and as many as the frame has bytes, and each byte fits its symbol.
pub record FitsWhole (r : Rules) (frame : List ℕ) (k : ℕ) : Type 0 where
  pub rule : k < count r
  pub some : 1 ≤ size r k
  pub whole : size r k ≡ length frame
  pub each : (i : ℕ) → i < size r k → fits r (get_or frame i 0) (symbol r k i) ≡ true

-- this is an occurrence at the frame's end of a rule as long as the frame
abbrev pub WholeOccurs : Type 0
WholeOccurs = (r : Rules) (frame : List ℕ) (k : ℕ) → FitsWhole r frame k ↔ (Occurs r frame (length frame) k × (size r k ≡ length frame))

-- no rule fits an empty frame
abbrev pub NoneFitsEmpty : Type 0
NoneFitsEmpty = (r : Rules) (k : ℕ) → ¬ FitsWhole r [] k

-- ---- lists of reports

-- The end and the rule of report i.
abbrev pub end_at : List ℕ → ℕ → ℕ
end_at reports i = get_or reports (2 * i) 0

abbrev pub rule_at : List ℕ → ℕ → ℕ
rule_at reports i = get_or reports (2 * i + 1) 0

-- (e, k) is one of the first m reports.
abbrev pub Listed : List ℕ → ℕ → ℕ → ℕ → Type 0
Listed reports m e k = (i : ℕ) × (i < m) × (end_at reports i ≡ e) × (rule_at reports i ≡ k)

-- By end, then by rule.
abbrev pub Earlier : ℕ → ℕ → ℕ → ℕ → Type 0
Earlier e k e' k' = (e < e') ⊎ ((e ≡ e') × (k < k'))

-- The first m reports are the pairs with P, each once and in order.
pub record Lists (P : ℕ → ℕ → Type 0) (reports : List ℕ) (m : ℕ) : Type 0 where
  pub listed : (e k : ℕ) → Listed reports m e k ↔ P e k
  pub ordered : (i j : ℕ) → i < j → j < m → Earlier (end_at reports i) (rule_at reports i) (end_at reports j) (rule_at reports j)

-- No two lists of the occurrences differ.
abbrev pub OneList : Type 0
OneList = (r : Rules) (text xs ys : List ℕ) (m n : ℕ) → Lists (Occurs r text) xs m → Lists (Occurs r text) ys n
    → (m ≡ n) × ((i : ℕ) → i < m → (end_at xs i ≡ end_at ys i) × (rule_at xs i ≡ rule_at ys i))
