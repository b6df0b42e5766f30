-- The ancestors stay outside, and so keep their clips and their spaces.
use Rattle.scroll_clip.proofs.FrameLemmas.{inside_clips-outside}
use Rattle.scroll_clip.proofs.laws.frame_clips.Goals as goal

pub returns : goal.returns
returns c = record { clips = inside_clips-outside }
