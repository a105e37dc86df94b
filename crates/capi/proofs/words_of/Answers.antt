-- `capi::words_of` meets its contract, case by case. Assumes nothing.
use Rattle.capi.specs.Words.{answer_words}
use Rattle.capi.proofs.words_of.Goals as goal

pub returns-in-Value : goal.returns-in-Value
unfolding answer_words
returns-in-Value c = rw c.in-Value.is

pub returns-in-Stopped : goal.returns-in-Stopped
unfolding answer_words
returns-in-Stopped c = rw c.in-Stopped.is

pub returns-in-Refused : goal.returns-in-Refused
unfolding answer_words
returns-in-Refused c = rw c.in-Refused.is
