-- Why an edit may be refused: by the table of faults, and last by the bound on maps.
use Rattle.std.specs.Prelude.{Option, Some, None, Bool, if◌then◌else◌}
use Rattle.std.specs.Option.{option_or}
use Rattle.box_tree.specs.declared.edit.Edit.{Edit}
use Rattle.box_tree.specs.declared.edit.EditFault.{EditFault}
use Rattle.box_tree.specs.declared.edit.EditFault.TheVariants as fault
use Rattle.box_tree.specs.Contents.{Contents}
use Rattle.box_tree.specs.Edited.{edited, first_fault as first_table_fault}
use Rattle.spaces.specs.declared.table.fault.BoundOrMemory.{BoundOrMemory}
use Rattle.spaces.specs.declared.table.fault.BoundOrMemory.TheVariants as unrenewed
use Rattle.spaces.specs.Bound.{is_bounded}

-- the bound as a fault (own), where some partial product of the page that the edit would leave passes it
abbrev pub bound_fault : Bool → Option EditFault
bound_fault bounded = if bounded then None else Some fault.Bound

-- the first fault of an edit on a page, where it has one: the first of the table, and else the bound
abbrev pub first_fault : Contents → Edit → Option EditFault
first_fault page edit = option_or (first_table_fault page edit) (bound_fault (is_bounded (edited page edit)))

-- the fault of an edit that leaves spaces which can't be renewed: the bound, or want of memory
abbrev pub fault_of : BoundOrMemory → EditFault
fault_of unrenewed.Bound = fault.Bound
fault_of unrenewed.OutOfMemory = fault.OutOfMemory
