-- `report::settings` meets its contract: each is its word, or the house default, N's by the τ in use. Assumes nothing.
use mathlib.Core.Path.{◌∙◌, ap}
use native.Mathlib.Omega.{arith}
use Rattle.language.specs.House.{house_period}
use Rattle.report.specs.Input.{job_of, or_house}
use Rattle.report.proofs.Words.{or_house_below}
use Rattle.report.proofs.settings.Goals as goal

pub house-house-requires : goal.house-house-requires
house-house-requires c =
    omega (arith, or_house_below {n = 4294967296} c.or_house-tau.ensures (c.shared_slice_known-2-1.given _).fits (omega arith))

pub returns : goal.returns
unfolding job_of
returns c =
    let house = c.house-house.ensures in
    let tau = c.or_house-tau.ensures in
    (c.or_house.ensures ∙ ap (or_house _) house.fuel, c.or_house-2.ensures ∙ ap (or_house _) (house.period ∙ ap house_period tau), tau)
