-- The lines where the first machine is not refused, and where one of two has no value.
-- Assumes nothing.
use mathlib.Core.Path.{◌≡◌, refl}
use Prim.Native.Nat.{ℕ}
use Rattle.table.specs.declared.Refusal.{Refusal}
use Rattle.language.specs.declared.Counts.{Counts}
use Rattle.language.specs.declared.Answer.{Answer}
use Rattle.language.specs.declared.Answer.TheVariants.{Value, Stopped, Refused}
use Rattle.lines.specs.Lines.{ascii, breadth_line, machine_lines, report_lines}

-- where the first machine does not refuse, its line is told with the others
pub unrefused : (s p h : Answer) → ((r : Refusal) → s ≡ Refused r → ⊥) → machine_lines s p h ≡ report_lines s p h
unfolding report_lines
unrefused (Value v counts) p h not = refl
unrefused (Stopped s) p h not = refl
unrefused (Refused r) p h not = absurd (not r refl)

-- where one of the two has no value, there is no breadth
pub no_sequential_value : (s p : Answer) → ((v : ℕ) (a : Counts) → s ≡ Value v a → ⊥) → ascii "breadth none\n" ≡ breadth_line s p
unfolding breadth_line
no_sequential_value (Value v a) p not = absurd (not v a refl)
no_sequential_value (Stopped s) p not = refl
no_sequential_value (Refused r) p not = refl

pub no_parallel_value : (s p : Answer) → ((v : ℕ) (a : Counts) → p ≡ Value v a → ⊥) → ascii "breadth none\n" ≡ breadth_line s p
unfolding breadth_line
no_parallel_value (Value v a) (Value u b) not = absurd (not u b refl)
no_parallel_value (Value v a) (Stopped s) not = refl
no_parallel_value (Value v a) (Refused r) not = refl
no_parallel_value (Stopped s) p not = refl
no_parallel_value (Refused r) p not = refl
