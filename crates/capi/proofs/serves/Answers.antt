-- `capi::serves` meets its contract, by its two tests (proofs/Serving.antt). Assumes nothing.
use Rattle.capi.proofs.Serving.{cramped, names}
use Rattle.capi.proofs.serves.Goals as goal

pub returns-then-room-lt8 : goal.returns-then-room-lt8
returns-then-room-lt8 c = cramped _ _ c.if-room-lt8.true

pub returns : goal.returns
returns c = rw c.ok.ensures.value (names _ _ c.try_from.result c.if-room-lt8.false c.try_from.ensures)
