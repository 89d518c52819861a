use Rattle.text.proofs.Output.{put_pair}
use Rattle.text.proofs.put_hex_byte.Goals as goal

pub returns : goal.returns
returns c = put_pair _ _ _ c.requires c.glyph.ensures c.glyph-2.ensures c.put_byte-m.ensures c.put_byte.ensures
