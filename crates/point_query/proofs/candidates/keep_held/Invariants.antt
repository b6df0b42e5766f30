-- The numbers so far that pass the test stand at the front.
use Rattle.std.proofs.lemmas.List.Filters.{FiltersInPlace}
use Rattle.point_query.specs.Near.{is_held}
use Rattle.point_query.proofs.candidates.keep_held.Given as goal

abbrev pub invariant-loop-at : goal.invariant-loop-at
invariant-loop-at l = FiltersInPlace (is_held l.bounds l.x l.y) l.initial.numbers l.numbers l.kept l.at
