-- The lines of specs/Examples.antt, by computation.
use mathlib.Core.Path.{refl}
use Rattle.lines.specs.Lines.{digits_in, decimals, quotient_line}
use Rattle.lines.specs.Examples.{rows, quotients, told, ExampleBreadths}

pub written : ExampleBreadths
unfolding rows quotients told quotient_line decimals digits_in
written = refl
