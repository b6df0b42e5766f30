-- The lists of all stacking contexts have an item as often as the layer of the root, and a stacking context as often as the
-- page has its id.
use Rattle.stacking.proofs.EntryLemmas.{same_context, same_place}
use Rattle.stacking.proofs.laws.each_entry_stands_once.Goals as goal

pub returns : goal.returns
returns c = record {
  in_one_list = λ page entry context other j k valid here there. same_context page valid entry context other j k here there;
  at_one_place = λ page entry context other j k valid here there. same_place page valid entry context other j k here there;
}
