-- A containing block has fewer ancestors.
use Rattle.box_tree.specs.Contents.{ancestor_count}
use Rattle.scroll_clip.proofs.clips.+inside_clips.Given as goal

abbrev pub decreases-inside_clips : goal.decreases-inside_clips
decreases-inside_clips g l = ancestor_count l.page.now.contents l.id
