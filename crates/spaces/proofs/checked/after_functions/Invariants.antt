-- What is made so far, with the functions that are left, is what is made of all.
use Rattle.std.proofs.Common.{◌≡◌, drop}
use Rattle.std.specs.Prelude.{map}
use Rattle.affine.specs.Function.{function_map}
use Rattle.spaces.specs.Checked.{checked_products}
use Rattle.spaces.proofs.checked.after_functions.Given as goal

abbrev pub invariant-loop-function : goal.invariant-loop-function
invariant-loop-function l = checked_products l.all (map function_map (drop l.function-index l.functions)) ≡ checked_products l.fn.start (map function_map l.functions)
