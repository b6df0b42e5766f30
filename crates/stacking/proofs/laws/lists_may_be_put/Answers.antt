-- What stands in a list is an item of the page, of which no two have a number, or a stacking context, whose number is its id;
-- and no entry stands twice.
use Rattle.stacking.proofs.WholeLemmas.{lists-distinct, nowhere-else, all-in_room}
use Rattle.stacking.proofs.laws.lists_may_be_put.Goals as goal

pub returns : goal.returns
returns c = record {
  distinct = λ page items context valid are real. lists-distinct page valid items are context real;
  nowhere_else = λ page items lists context valid are real only. nowhere-else page valid items are lists only context real;
  in_room = λ page items limit context valid are below real. all-in_room page valid items are limit context below real;
}
