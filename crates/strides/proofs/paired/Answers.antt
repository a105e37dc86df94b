-- `strides::paired` meets its contract, by the laws of Forms.
use mathlib.Core.Path.{refl}
use native.Mathlib.Omega.{arith}
use Rattle.strides.proofs.Forms.{within, right_inside, right_cost, whole_paired}
use Rattle.strides.proofs.paired.Goals as goal

pub overflow_add-right : goal.overflow_add-right
overflow_add-right c = omega (arith, within c.requires.0.site)

pub offset_bounds-site-site : goal.offset_bounds-site-site
offset_bounds-site-site c = omega (arith, within c.requires.0.site)

pub bounds-site-site : goal.bounds-site-site
bounds-site-site c = omega (arith, within c.requires.0.site)

pub overflow_mul-right : goal.overflow_mul-right
overflow_mul-right c = omega (arith, right_inside c.requires.0 _ refl)

pub overflow_add-right-2 : goal.overflow_add-right-2
overflow_add-right-2 c = omega (arith, right_inside c.requires.0 _ refl)

pub cost-l-requires : goal.cost-l-requires
cost-l-requires c = right_cost c.requires.0 _ refl

pub returns-then-l-gt0 : goal.returns-then-l-gt0
returns-then-l-gt0 c = whole_paired _ _ _ _ _ _ c.whole.ensures
