-- `graph_answers::fitted` meets its contract: each arm is a clause of `fitted_of`. Assumes nothing.
use native.Mathlib.Omega.{arith}
use Rattle.graph_answers.proofs.AsFitted.{fits, too_long, stop_fitted, refusal_fitted}
use Rattle.graph_answers.proofs.fitted.Goals as goal

pub returns-then-words-room : goal.returns-then-words-room
returns-then-words-room c =
    let a = c.args in
    fits a.answer a.words a.room _ _ c.in-Value.is (omega arith)

pub returns-else-words-room : goal.returns-else-words-room
returns-else-words-room c =
    let a = c.args in
    too_long a.answer a.words a.room _ _ c.in-Value.is (omega arith)

pub returns-in-Stopped : goal.returns-in-Stopped
returns-in-Stopped c = stop_fitted _ _ _ _ c.in-Stopped.is

pub returns-in-Refused : goal.returns-in-Refused
returns-in-Refused c = refusal_fitted _ _ _ _ c.in-Refused.is
