-- 01's table A ("Settled runs"): each figure derives its value, with the counts that 01 prints, so that what the theorem
-- speaks of can be met.
use mathlib.Core.Path.{ap}
use mathlib.Core.List.{List, [], ◌∷◌}
use Rattle.schedule.specs.Machine.{sequential, parallel, heartbeat}
use Rattle.language.specs.declared.Answer.{Answer}
use Rattle.language.specs.Answers.{counts_of, unfinished}
use Rattle.language.specs.Settled.{table_a, rows, answered, told}
use Rattle.language.proofs.Settled.{settled}
use Rattle.published_answers.specs.Answers.{judged, Counted}
use Rattle.published_answers.proofs.Answers.{demand_2}

first : List Answer → Answer
first [] = unfinished
first (a ∷ rest) = a

second : List Answer → Answer
second [] = unfinished
second (a ∷ rest) = first rest

third : List Answer → Answer
third [] = unfinished
third (a ∷ rest) = second rest

by_figure_4 : Counted (judged sequential table_a []) 100 256 2 4 (counts_of 11 0 11 11 2)
unfolding rows answered told first
by_figure_4 = (((demand_2 table_a [] 100 3 2 8192).figure_4.value_iff 4 (counts_of 11 0 11 11 2)).0 (ap first settled)).1

by_figure_5 : Counted (judged parallel table_a []) 100 256 2 4 (counts_of 5 2 9 7 2)
unfolding rows answered told first second
by_figure_5 = (((demand_2 table_a [] 100 3 2 8192).figure_5.value_iff 4 (counts_of 5 2 9 7 2)).0 (ap second settled)).1

by_figure_6 : Counted (judged (heartbeat 3) table_a []) 100 256 2 4 (counts_of 9 1 11 10 2)
unfolding rows answered told first second third
by_figure_6 = (((demand_2 table_a [] 100 3 2 8192).figure_6.value_iff 4 (counts_of 9 1 11 10 2)).0 (ap third settled)).1
