-- `strides::rebound` meets its contract, by the laws of Rebounding.
use native.Mathlib.Omega.{arith}
use Rattle.strides.proofs.Forms.{ok_is}
use Rattle.strides.proofs.Rebounding.{start_asked, frame_inside, right_cost, right_simple, rebounded}
use Rattle.strides.proofs.rebound.Goals as goal

pub start-start-requires : goal.start-start-requires
start-start-requires c = start_asked c.args.top c.requires.0 c.seat_of-seat.ensures

pub overflow_add-at : goal.overflow_add-at
overflow_add-at c = omega (arith, frame_inside c.args.top c.requires.0 c.seat_of-seat.ensures c.start-start.ensures)

pub overflow_add-at-2 : goal.overflow_add-at-2
overflow_add-at-2 c = omega (arith, frame_inside c.args.top c.requires.0 c.seat_of-seat.ensures c.start-start.ensures)

pub offset_bounds-job-at : goal.offset_bounds-job-at
offset_bounds-job-at c = omega (arith, frame_inside c.args.top c.requires.0 c.seat_of-seat.ensures c.start-start.ensures)

pub bounds-job-at : goal.bounds-job-at
bounds-job-at c = omega (arith, frame_inside c.args.top c.requires.0 c.seat_of-seat.ensures c.start-start.ensures)

pub offset_bounds-job-at-2 : goal.offset_bounds-job-at-2
offset_bounds-job-at-2 c = omega (arith, frame_inside c.args.top c.requires.0 c.seat_of-seat.ensures c.start-start.ensures)

pub bounds-job-at-2 : goal.bounds-job-at-2
bounds-job-at-2 c = omega (arith, frame_inside c.args.top c.requires.0 c.seat_of-seat.ensures c.start-start.ensures)

pub overflow_add-right : goal.overflow_add-right
overflow_add-right c = omega (arith, frame_inside c.args.top c.requires.0 c.seat_of-seat.ensures c.start-start.ensures)

pub cost-k-requires : goal.cost-k-requires
cost-k-requires c = right_cost c.args.top c.requires.0 c.seat_of-seat.ensures c.start-start.ensures

pub simple-requires : goal.simple-requires
simple-requires c =
    right_simple c.args.top c.requires.0 c.seat_of-seat.ensures c.start-start.ensures c.cost-k.ensures (c.fits.ensures c.if-not-fits.false).0

pub returns : goal.returns
returns c =
    rebounded c.args.top c.requires.0 c.seat_of-seat.ensures c.start-start.ensures c.cost-k.ensures c.frames_of.ensures (c.fits.ensures c.if-not-fits.false)
    (ok_is c.simple.ensures c.ok.ensures.value c.in_ok-y.was) (ok_is c.operate.ensures c.ok-2.ensures.value c.in_ok-z.was) c.later.ensures
