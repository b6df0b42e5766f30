-- Each number is that of an item of the node, which has an entry.
use Rattle.std.proofs.Common.{◌≡◌, ℕ, ◌++◌, ◌<◌, ◌≤◌, List, length, map, get_or, Option, IsSome, sym, ap, subst, ◌∙◌, arith}
use Rattle.std.proofs.lemmas.List.{append-nil, take_all}
use Rattle.std.specs.Option.{option_map_or}
use Rattle.affine.specs.Hull.{no_rect}
use Rattle.box_tree.specs.declared.item.Item.{Item}
use Rattle.box_tree.specs.Numbers.{Names, IsNumber, numbers_of}
use Rattle.spatial_index.specs.declared.change.Change.{Change}
use Rattle.spaces.specs.declared.table.entry.Entry.{Entry}
use Rattle.spaces.specs.Table.{entry_of, new_entry}
use Rattle.tree_edits.specs.Bounds.{view_bounds}
use Rattle.tree_edits.specs.Changes.{bounds_given, moved}
use Rattle.tree_edits.proofs.CellLemmas.{item-at, item-named, node-named, node-entered, front-more}
use Rattle.tree_edits.proofs.changes.push_moved.Goals as goal

pub loop-number-init : goal.loop-number-init
loop-number-init g c = sym (append-nil c.args.changes.now.items)

pub item-item-requires : goal.item-item-requires
item-item-requires g c =
    let page = c.args.page.now in
    let same = c.items_of-number-items.ensures.numbers in
    let k = c.loop-number.number-index in
    let within : k < length (numbers_of page.items c.args.id) = subst (λ (xs : List ℕ). k < length xs) same c.loop-number-test.true in
    subst (λ (xs : List ℕ). IsNumber page.items (get_or xs k 0)) (sym same)
    (item-at page.contents page.items c.validity.ensures c.numbering.ensures c.args.id k within, item-named page.contents page.items c.validity.ensures c.numbering.ensures c.args.id k within)

pub renewed_bounds-requires-clause-renewed : goal.renewed_bounds-requires-clause-renewed
renewed_bounds-requires-clause-renewed g c =
    let page = c.args.page.now in
    let same = c.items_of-number-items.ensures.numbers in
    let k = c.loop-number.number-index in
    let within : k < length (numbers_of page.items c.args.id) = subst (λ (xs : List ℕ). k < length xs) same c.loop-number-test.true in
    let named : Names page.items (get_or (numbers_of page.items c.args.id) k 0) c.item-item.result = subst (λ (xs : List ℕ). Names page.items (get_or xs k 0) c.item-item.result) same c.item-item.ensures.item in
    let node_is = node-named page.contents page.items c.validity.ensures c.numbering.ensures c.args.id k within c.item-item.result named in
    subst (λ (id : ℕ). new_entry c.args.change.now id ≡ entry_of page.contents id) (sym node_is) c.requires

pub renewed_bounds-requires-clause-there : goal.renewed_bounds-requires-clause-there
renewed_bounds-requires-clause-there g c =
    let page = c.args.page.now in
    let same = c.items_of-number-items.ensures.numbers in
    let k = c.loop-number.number-index in
    let within : k < length (numbers_of page.items c.args.id) = subst (λ (xs : List ℕ). k < length xs) same c.loop-number-test.true in
    let named : Names page.items (get_or (numbers_of page.items c.args.id) k 0) c.item-item.result = subst (λ (xs : List ℕ). Names page.items (get_or xs k 0) c.item-item.result) same c.item-item.ensures.item in
    let node_is = node-named page.contents page.items c.validity.ensures c.numbering.ensures c.args.id k within c.item-item.result named in
    let entered = node-entered page.contents page.items c.validity.ensures c.numbering.ensures c.args.id k within in
    subst (λ (id : ℕ). IsSome (new_entry c.args.change.now id)) (sym node_is) (subst (λ (o : Option Entry). IsSome o) (sym c.requires) entered)

pub loop-number-preserved : goal.loop-number-preserved
loop-number-preserved g c =
    let page = c.args.page.now in
    let same = c.items_of-number-items.ensures.numbers in
    let k = c.loop-number.number-index in
    let number = get_or c.items_of-number-items.result.now k 0 in
    let f = moved c.args.bounds.now page.contents page.items in
    let within : k < length (numbers_of page.items c.args.id) = subst (λ (xs : List ℕ). k < length xs) same c.loop-number-test.true in
    let old_is = c.rect_under.ensures in
    let new_is : c.renewed_bounds.result ≡ bounds_given page.contents page.items number =
    c.renewed_bounds.ensures.bounds ∙ sym (ap (λ (o : Option Item). option_map_or (view_bounds page.contents) o no_rect) c.item-item.ensures.item.given_to) in
    let change : Change = record { item = number; old = c.rect_under.result; new = c.renewed_bounds.result } in
    let change_is : change ≡ f number = cc in
    c.in_ok-push.ensures.items
    ∙ front-more f c.args.changes.now.items c.loop-number.changes.items (numbers_of page.items c.args.id) k 0 change within c.loop-number.invariant (change_is ∙ ap f (ap (λ (xs : List ℕ). get_or xs k 0) same))

pub returns : goal.returns
returns g c =
    let page = c.args.page.now in
    let same = c.items_of-number-items.ensures.numbers in
    let all : length (numbers_of page.items c.args.id) ≤ c.loop-number.number-index = subst (λ (xs : List ℕ). length xs ≤ c.loop-number.number-index) same (omega (arith, c.loop-number-test.false)) in
    c.loop-number.invariant ∙ ap (λ (xs : List ℕ). c.args.changes.now.items ++ map (moved c.args.bounds.now page.contents page.items) xs) (take_all c.loop-number.number-index (numbers_of page.items c.args.id) all)
