-- The reports of specs/Examples.antt, by computation: each input is read, run and told.
use mathlib.Core.Path.{refl}
use Rattle.table.specs.Words.{nodes_before}
use Rattle.table.specs.Nodes.{arithmetic_of, node_of}
use Rattle.table.specs.Walk as walk
use Rattle.table.specs.Read.{◌then◌, header, entry, exact, root_of, body_read, each, contents, bodies, read_of}
use Rattle.schedule.specs.Graph.{work, span}
use Rattle.schedule.specs.Machine.{promotable, promote, promoted_at_birth, promotion_due, with_fuel, with_frame, evaluated, arrived, move, step, start}
use Rattle.schedule.specs.Runs.{and_then, run, outcome}
use Rattle.language.specs.Language.{result, operated, call, next, gathered, arrive}
use Rattle.language.specs.Checks.{range_of, arguments_of, workspace_of, settings_of, checked_of}
use Rattle.language.specs.Answers.{told_by, after_check, run_of, answer_of}
use Rattle.report.specs.Input.{words_of, pairs_of, or_house, job_of, complete, whole}
use Rattle.lines.specs.Lines.{digits_in, refusal_line, depth_field, value_line, stop_line, answer_line, decimals, quotient_line, breadth_line, report_lines}
use Rattle.report.specs.Report.{lines_on, words_report, report_of}
use Rattle.report.specs.Examples.{bytes_of, local, long, deeper, after_fork_table, on_a, rows, reports, told, ExampleReports}

pub written : ExampleReports
unfolding bytes_of local long deeper after_fork_table on_a rows reports told report_of words_report lines_on report_lines breadth_line quotient_line decimals answer_line stop_line value_line depth_field refusal_line digits_in whole complete job_of or_house pairs_of words_of answer_of after_check run_of told_by checked_of settings_of workspace_of arguments_of range_of read_of bodies contents each body_read root_of exact entry header ◌then◌ nodes_before arithmetic_of node_of work span promotable promote promoted_at_birth promotion_due with_fuel with_frame evaluated arrived move step start and_then run outcome result operated call next gathered arrive walk.unused_of walk.call_shape walk.shape_of walk.next walk.after_first walk.children walk.own walk.walk_of
written = refl
