-- The runs with a buffer lent, by computation: each row's table is read, accepted, and run, and its graph is written.
use mathlib.Core.Path.{refl}
use Rattle.table.specs.Words.{nodes_before}
use Rattle.table.specs.Nodes.{arithmetic_of, node_of}
use Rattle.table.specs.Walk as walk
use Rattle.table.specs.Read.{◌then◌, header, entry, exact, root_of, body_read, each, contents, bodies, read_of}
use Rattle.schedule.specs.Graph.{work, span}
use Rattle.schedule.specs.Machine.{promotable, promote, promoted_at_birth, promotion_due, with_fuel, with_frame, evaluated, arrived, move, step, start}
use Rattle.schedule.specs.Runs.{and_then, run, outcome}
use Rattle.graph.specs.Words.{stretch, fork_words, pending, parts}
use Rattle.graph.specs.Lent.{ending_with, words_told, left_in}
use Rattle.language.specs.Language.{result, operated, call, next, gathered, arrive}
use Rattle.language.specs.Checks.{range_of, arguments_of, workspace_of, settings_of, checked_of}
use Rattle.language.specs.Answers.{told_by, after_check}
use Rattle.graph_answers.specs.Answers.{lent_to, words_of, buffer_of, unless_refused, graphed_of, graph_left}
use Rattle.graph_answers.specs.Examples.{given, told, examples, ExampleRuns}

pub worked : ExampleRuns
unfolding examples given told graphed_of graph_left lent_to words_of buffer_of unless_refused stretch fork_words pending parts ending_with words_told left_in after_check told_by checked_of settings_of workspace_of arguments_of range_of read_of bodies contents each body_read root_of exact entry header ◌then◌ nodes_before arithmetic_of node_of work span promotable promote promoted_at_birth promotion_due with_fuel with_frame evaluated arrived move step start and_then run outcome result operated call next gathered arrive walk.unused_of walk.call_shape walk.shape_of walk.next walk.after_first walk.children walk.own walk.walk_of
worked = refl
