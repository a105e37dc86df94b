-- What a machine leaves in its workspace, by its answer. 01, of a refusal: "Nothing runs and the workspace keeps its content"; of a stop:
-- "The workspace is zero afterwards, as after a value."
use Rattle.std.specs.Prelude.{ℕ, List, length, replicate}
use Rattle.language.specs.declared.Answer.{Answer}
use Rattle.language.specs.declared.Answer.TheVariants.{Value, Stopped, Refused}

unfoldable pub left_by : Answer → List ℕ → List ℕ
left_by (Value v counts) ws = replicate (length ws) 0
left_by (Stopped s) ws = replicate (length ws) 0
left_by (Refused r) ws = ws
