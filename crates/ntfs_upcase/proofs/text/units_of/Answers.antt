use Rattle.std.proofs.Common.{◌++◌, sym, ap, ◌∙◌, map-id, flat_map}
use Rattle.std.proofs.lemmas.Iterator.{YieldsList-from_chars}
use Rattle.std.proofs.lemmas.Iterator.Consumers.{YieldsList-end}
use Rattle.std.specs.Char.Escape.{encode_utf16}
use Rattle.ntfs_upcase.specs.Names.{unit_bytes, name_bytes}
use Rattle.ntfs_upcase.proofs.NamesLemmas.{unit_bytes-more}
use Rattle.ntfs_upcase.proofs.text.units_of.Goals as goal

pub characters-init : goal.characters-init
unfolding unit_bytes
characters-init c = c.in_ok-name.ensures.items

pub characters-preserved : goal.characters-preserved
characters-preserved c =
    c.in_ok-push_character.ensures ∙ ap (λ front. front ++ unit_bytes (encode_utf16 c.in-Some.character)) c.characters.invariant
    ∙ sym (unit_bytes-more c.characters.yielded c.in-Some.character)

pub returns : goal.returns
unfolding name_bytes
returns c =
    let end = YieldsList-end (YieldsList-from_chars c.args.text.now c.utf8.text cc) c.characters.yielded _ c.characters.yielded_by _ _ c.in-None.is c.next.ensures.steps in
    c.characters.invariant ∙ ap (λ cs. unit_bytes (flat_map encode_utf16 cs)) (sym (map-id c.characters.yielded) ∙ end.0)
