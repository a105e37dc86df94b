-- The report's lines (01, "The report program" and "Settled runs"; the breadth is that of 02, P6, the depth that of P7). Every line ends in a newline; all numbers are decimal.
use Rattle.std.specs.Prelude.{ℕ, zero, suc, ◌+◌, ◌*◌, ◌/◌, ◌%◌, ◌≤◌, ◌<◌, ◌↔◌, cond, List, [], ◌∷◌, ◌++◌, ltb}
use Prim.Native.Char.{code}
use Prim.Native.String.{String}
use Prim.Native.String as text
use Rattle.table.specs.declared.Refusal.{Refusal}
use Rattle.language.specs.declared.Counts.{Counts}
use Rattle.language.specs.declared.Stop.{Stop}
use Rattle.language.specs.declared.Answer.{Answer}
use Rattle.language.specs.declared.Answer.TheVariants.{Value, Stopped, Refused}

-- the bytes of a text
abbrev pub ascii : String → List ℕ
ascii text.[] = []
ascii (text.◌∷◌ c s) = code c ∷ ascii s

-- the last k decimal digits of n, without zeros before the first
unfoldable pub digits_in : ℕ → ℕ → List ℕ
digits_in zero n = []
digits_in (suc k) n = cond (ltb n 10) ((48 + n) ∷ []) (digits_in k (n / 10) ++ ((48 + n % 10) ∷ []))

-- "All numbers are decimal": a 64-bit number, which has at most 20 digits
abbrev pub decimal : ℕ → List ℕ
decimal n = digits_in 20 n

-- a word and a number after it
abbrev pub tagged : String → ℕ → List ℕ
tagged word n = ascii word ++ decimal n

abbrev pub newline : List ℕ
newline = ascii "\n"

-- as `refused 9 function 0 node 0`
unfoldable pub refusal_line : Refusal → List ℕ
refusal_line r =
    tagged "refused " r.number ++ (tagged " function " r.function ++ (tagged " node " r.node ++ newline))

-- 02, P7: "The report's value lines end with ` deep 2` for table A, and stop lines gain the same field at their end."
unfoldable pub depth_field : ℕ → List ℕ
depth_field deepest = tagged " deep " deepest ++ newline

-- `value 4 work 11 span 11 forks 0 deep 2`, after the machine's name
unfoldable pub value_line : ℕ → Counts → List ℕ
value_line v counts =
    tagged "value " v
    ++ (tagged " work " counts.work.0
    ++ (tagged " span " counts.span.0
    ++ (tagged " forks " counts.forks ++ depth_field counts.deepest)))

-- `stop 20 function 0 node 6 transitions 10 deep 2`, after the machine's name
unfoldable pub stop_line : Stop → List ℕ
stop_line s =
    tagged "stop " s.number
    ++ (tagged " function " s.function
    ++ (tagged " node " s.node
    ++ (tagged " transitions " s.transitions ++ depth_field s.deepest)))

-- what follows a machine's name, in the words of its case. No report has a refusal here: its first machine is refused then, too, and its
-- one line is the refusal's
unfoldable pub answer_line : Answer → List ℕ
answer_line (Value v counts) = value_line v counts
answer_line (Stopped s) = stop_line s
answer_line (Refused r) = refusal_line r

-- 02, P6: "sequential work divided by parallel span, with two decimals, rounded down": so many hundredths. No span of a value is 0 (crate
-- language, theorem `spans_positive`); of a span of 0 the quotient is 0
abbrev pub breadth_of : ℕ → ℕ → ℕ
breadth_of work span = work * 100 / span

-- THEOREM (proofs/Quotient.antt, `below_one`): a breadth below 1 says that the parallel span is above the sequential work
abbrev pub BelowOne : Type 0
BelowOne = (work span : ℕ) → 1 ≤ span → (breadth_of work span < 100) ↔ (work < span)

-- n hundredths after their whole part: a point and the last two digits, always two, as `.57`, `.07` and `.00`
unfoldable pub decimals : ℕ → List ℕ
decimals n = ascii "." ++ ((48 + n / 10 % 10) ∷ (48 + n % 10) ∷ [])

-- as `breadth 1.57`
unfoldable pub quotient_line : ℕ → List ℕ
quotient_line n = tagged "breadth " (n / 100) ++ (decimals n ++ newline)

-- 02, P6: "`none` unless both runs have values". No report needs the second and the third clause: where the sequential run has a value the parallel
-- run has it, too (demand 3)
unfoldable pub breadth_line : Answer → Answer → List ℕ
breadth_line (Value v a) (Value u p) = quotient_line (breadth_of a.work.0 p.span.0)
breadth_line (Value v a) (Stopped s) = ascii "breadth none\n"
breadth_line (Value v a) (Refused r) = ascii "breadth none\n"
breadth_line (Stopped s) parallel = ascii "breadth none\n"
breadth_line (Refused r) parallel = ascii "breadth none\n"

-- "The lines of the three machines show what those answered, unchanged."
abbrev pub machine_lines : Answer → Answer → Answer → List ℕ
machine_lines sequential parallel heartbeat =
    (ascii "sequential " ++ answer_line sequential)
    ++ ((ascii "parallel " ++ answer_line parallel)
    ++ ((ascii "heartbeat " ++ answer_line heartbeat) ++ breadth_line sequential parallel))

-- THE REPORT of three answers. "A refusal prints one line", and it tells all three: they refuse alike (crate language, `RefusedAlike`)
unfoldable pub report_lines : Answer → Answer → Answer → List ℕ
report_lines (Value v counts) parallel heartbeat = machine_lines (Value v counts) parallel heartbeat
report_lines (Stopped s) parallel heartbeat = machine_lines (Stopped s) parallel heartbeat
report_lines (Refused r) parallel heartbeat = refusal_line r
