use Rattle.std.proofs.Common.{rules, ◌≡◌, ◌∙◌, [], map, sym, ap, refl, true, false, arith}
use Rattle.ntfs_record.specs.Layout.{in_use_of}
use Rattle.ntfs_record.specs.Attribute.{is_end}
use Rattle.ntfs_record.specs.Views.{placed_from, shown_placed}
use Rattle.ntfs_record.proofs.Sound.{sound_header}
use Rattle.ntfs_record.proofs.Places.{step, raws_of-end}
use Rattle.ntfs_record.proofs.StandsLemmas.{shown-step, placed-step}
use Rattle.ntfs_record.proofs.attribute.AttributesIterator.next.Goals as goal

pub in_use_of-used-requires : goal.in_use_of-used-requires
in_use_of-used-requires c = let h = sound_header c.self.inside.bytes.now c.self.invariant.header in omega arith

pub is_end-requires-clause-within : goal.is_end-requires-clause-within
is_end-requires-clause-within c = let h = sound_header c.self.inside.bytes.now c.self.invariant.header in omega arith

pub returns-then-is_end-clause-steps : goal.returns-then-is_end-clause-steps
returns-then-is_end-clause-steps c =
    let e : is_end (in_use_of c.self.inside.bytes.now) c.self.inside.place c.self.inside.bytes.now ≡ true =
    rw (← c.in_use_of-used.ensures) (sym c.is_end.ensures ∙ c.if-is_end.true) in
    let none : map shown_placed c.args.self.now ≡ [] =
    ap (map shown_placed)
    (sym c.self.view_is ∙ ap (placed_from c.self.inside.place)
    (raws_of-end c.self.inside.bytes.now c.self.inside.place e)) in
    (none, none)

pub view_at-view-requires-clause-within : goal.view_at-view-requires-clause-within
view_at-view-requires-clause-within c =
    let h = sound_header c.self.inside.bytes.now c.self.invariant.header in omega arith

pub view_at-view-requires-clause-sound : goal.view_at-view-requires-clause-sound
view_at-view-requires-clause-sound c =
    let e : is_end (in_use_of c.self.inside.bytes.now) c.self.inside.place c.self.inside.bytes.now ≡ false =
    rw (← c.in_use_of-used.ensures) (sym c.is_end.ensures ∙ c.if-is_end.false) in
    (step c.self.inside.bytes.now c.self.inside.place c.self.invariant e).sound

pub length_at-requires : goal.length_at-requires
length_at-requires c =
    let e : is_end (in_use_of c.self.inside.bytes.now) c.self.inside.place c.self.inside.bytes.now ≡ false =
    rw (← c.in_use_of-used.ensures) (sym c.is_end.ensures ∙ c.if-is_end.false) in
    let h = sound_header c.self.inside.bytes.now c.self.invariant.header in
    let s = (step c.self.inside.bytes.now c.self.inside.place c.self.invariant e).sound in
    omega arith

pub invariant_of-self : goal.invariant_of-self
invariant_of-self c =
    let e : is_end (in_use_of c.self.inside.bytes.now) c.self.inside.place c.self.inside.bytes.now ≡ false =
    rw (← c.in_use_of-used.ensures) (sym c.is_end.ensures ∙ c.if-is_end.false) in
    rw c.length_at.ensures (step c.self.inside.bytes.now c.self.inside.place c.self.invariant e).rest

pub returns-clause-steps : goal.returns-clause-steps
returns-clause-steps c =
    let e : is_end (in_use_of c.self.inside.bytes.now) c.self.inside.place c.self.inside.bytes.now ≡ false =
    rw (← c.in_use_of-used.ensures) (sym c.is_end.ensures ∙ c.if-is_end.false) in
    let shown = shown-step c.self.inside.bytes.now c.self.inside.place c.self.invariant e in
    rw (← c.self.view_is, shown, c.view_at-view.ensures, c.length_at.ensures) refl

pub returns-clause-goes : goal.returns-clause-goes
returns-clause-goes c =
    let e : is_end (in_use_of c.self.inside.bytes.now) c.self.inside.place c.self.inside.bytes.now ≡ false =
    rw (← c.in_use_of-used.ensures) (sym c.is_end.ensures ∙ c.if-is_end.false) in
    let placed = placed-step c.self.inside.bytes.now c.self.inside.place c.self.invariant e in
    rw (← c.self.view_is, placed, c.length_at.ensures) (search rules)
