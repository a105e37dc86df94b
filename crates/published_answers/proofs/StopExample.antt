-- 01's stops ("Settled runs"): the rules beside each figure derive them, with the number, node and transitions that 01 prints, and the depth.
use Prim.Native.Nat.{ℕ, zero, suc}
use mathlib.Core.Path.{ap}
use mathlib.Core.List.{List, [], ◌∷◌}
use Rattle.schedule.specs.Machine.{sequential, parallel, heartbeat}
use Rattle.language.specs.declared.Answer.{Answer}
use Rattle.language.specs.declared.Stop.{Stop}
use Rattle.language.specs.Answers.{unfinished}
use Rattle.language.specs.Settled.{table_a, square, rows, answered, told}
use Rattle.language.proofs.Settled.{settled}
use Rattle.published_answers.specs.Answers.{stops_judged}
use Rattle.published_answers.proofs.Answers.{demand_2}

row : ℕ → List Answer → Answer
row k [] = unfinished
row zero (a ∷ rest) = a
row (suc k) (a ∷ rest) = row k rest

abbrev stop : ℕ → ℕ → ℕ → ℕ → Stop
stop number node transitions deepest = record { number = number; function = 0; node = node; transitions = transitions; deepest = deepest }

-- "A, sequential, .. fuel 10: stop 20, node 6, 10 transitions."
beside_figure_4 : stops_judged sequential table_a [] 10 256 (stop 20 6 10 2)
unfolding rows answered told row
beside_figure_4 = (((demand_2 table_a [] 10 3 2 8192).figure_4.stop_iff (stop 20 6 10 2)).0 (ap (row 6) settled)).1

-- "A, parallel, fuel 4: stop 20, node 6, 4 transitions"
beside_figure_5 : stops_judged parallel table_a [] 4 256 (stop 20 6 4 2)
unfolding rows answered told row
beside_figure_5 = (((demand_2 table_a [] 4 3 2 8192).figure_5.stop_iff (stop 20 6 4 2)).0 (ap (row 7) settled)).1

-- "A with one frame: stop 21 at node 1; transitions 1 sequential and heartbeat, 0 parallel."
beside_figure_6 : stops_judged (heartbeat 3) table_a [] 100 1 (stop 21 1 1 1)
unfolding rows answered told row
beside_figure_6 = (((demand_2 table_a [] 100 3 2 32).figure_6.stop_iff (stop 21 1 1 1)).0 (ap (row 10) settled)).1

one_frame : stops_judged parallel table_a [] 100 1 (stop 21 1 0 1)
unfolding rows answered told row
one_frame = (((demand_2 table_a [] 100 3 2 32).figure_5.stop_iff (stop 21 1 0 1)).0 (ap (row 11) settled)).1

-- "both constants 2^32 (a 0, b 1): stop 22, node 0, 4 transitions"
too_large : stops_judged sequential (square 0 1) [] 100 256 (stop 22 0 4 1)
unfolding rows answered told row
too_large = (((demand_2 (square 0 1) [] 100 3 2 8192).figure_4.stop_iff (stop 22 0 4 1)).0 (ap (row 13) settled)).1
