use Rattle.std.proofs.Common.{rules, ◌<◌, sym, ◌∙◌, length, ap, map, string_bytes}
use Rattle.ntfs_base.specs.Shelf.{without}
use Rattle.ntfs_base.proofs.ShelfLemmas.{without_text, next_text}
use Rattle.ntfs_base.proofs.names.remove_name.Goals as goal

pub returns-then-is_named : goal.returns-then-is_named
returns-then-is_named c =
    let within : c.names.index < length c.names.names.items = search rules in
    without_text c.args.name.now c.names.names.items c.remove.new.self.items c.names.index _ within c.index.ensures
    (sym c.is_named.ensures ∙ c.if-is_named.true) c.remove.ensures.items c.names.invariant.1
    ∙ ap (λ names. without c.args.name.now (map string_bytes names.items)) c.names.invariant.0

pub names-preserved : goal.names-preserved
names-preserved c =
    let within : c.names.index < length c.names.names.items = search rules in
    (c.names.invariant.0, next_text _ _ _ _ within c.index.ensures (sym c.is_named.ensures ∙ c.if-is_named.false) c.names.invariant.1)
