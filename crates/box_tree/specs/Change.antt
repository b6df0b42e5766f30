-- What a node gets in place of what it has, and what it then gives up.
use Rattle.box_tree.specs.declared.plan.Change.{Change}
use Rattle.box_tree.specs.declared.plan.Change.TheVariants.{Layout, Style, Form, Scroll}
use Rattle.box_tree.specs.Forest.{Label}

-- a label with what the change holds
abbrev pub changed : Change → Label → Label
changed (Layout l) n = record n { anchor = l.anchor; boxes = l.boxes; scroll = l.scroll; max = l.max }
changed (Style style) n = record n { style = style }
changed (Form form) n = record n { form = form }
changed (Scroll scroll) n = record n { scroll = scroll }

-- the same of a label as the change holds: what it gives up
abbrev pub given_up : Change → Label → Change
given_up (Layout l) n = Layout (record { anchor = n.anchor; boxes = n.boxes; scroll = n.scroll; max = n.max })
given_up (Style style) n = Style n.style
given_up (Form form) n = Form n.form
given_up (Scroll scroll) n = Scroll n.scroll
