use Rattle.std.proofs.Common.{◌≡◌, ◌+◌, ◌∙◌, sym, ap, true, false, ℕ, arith}
use Rattle.ntfs_record.specs.Layout.{in_use_of, length_at}
use Rattle.ntfs_record.specs.Attribute.{is_end, is_sound}
use Rattle.ntfs_record.specs.Parsing.{unsound_of}
use Rattle.ntfs_record.proofs.Sound.{sound_parts}
use Rattle.ntfs_record.proofs.Places.{unsound_of-end, unsound_of-unsound, unsound_of-sound}
use Rattle.ntfs_record.proofs.soundness.first_unsound.Goals as goal

pub returns-then-not-is_sound-clause-unsound : goal.returns-then-not-is_sound-clause-unsound
returns-then-not-is_sound-clause-unsound c =
    let e : is_end (in_use_of c.args.bytes.now) c.attributes.place c.args.bytes.now ≡ false =
    rw (← c.requires.is_used) (sym c.is_end.ensures ∙ c.attributes-test.true) in
    let s : is_sound (in_use_of c.args.bytes.now) c.attributes.place c.args.bytes.now ≡ false =
    rw (← c.requires.is_used) (sym c.is_sound.ensures ∙ c.if-not-is_sound.true) in
    sym (unsound_of-unsound c.args.bytes.now c.attributes.place e s) ∙ c.attributes.invariant.same

pub length_at-requires : goal.length_at-requires
length_at-requires c =
    let h =
    (sound_parts c.args.used c.attributes.place c.args.bytes.now
    (sym c.is_sound.ensures ∙ c.if-not-is_sound.false)).length in
    omega arith

pub attributes-smaller : goal.attributes-smaller
attributes-smaller c =
    let h =
    (sound_parts c.args.used c.attributes.place c.args.bytes.now
    (sym c.is_sound.ensures ∙ c.if-not-is_sound.false)).length in
    omega (arith, c.length_at.ensures)

pub attributes-preserved : goal.attributes-preserved
attributes-preserved c =
    let sound : is_sound c.args.used c.attributes.place c.args.bytes.now ≡ true =
    sym c.is_sound.ensures ∙ c.if-not-is_sound.false in
    let h = (sound_parts c.args.used c.attributes.place c.args.bytes.now sound).length in
    let e : is_end (in_use_of c.args.bytes.now) c.attributes.place c.args.bytes.now ≡ false =
    rw (← c.requires.is_used) (sym c.is_end.ensures ∙ c.attributes-test.true) in
    let s : is_sound (in_use_of c.args.bytes.now) c.attributes.place c.args.bytes.now ≡ true =
    rw (← c.requires.is_used) sound in
    let goes = unsound_of-sound c.args.bytes.now c.attributes.place e s in
    let at : unsound_of c.args.bytes.now (c.attributes.place + c.length_at.result) ≡ unsound_of c.args.bytes.now
    (c.attributes.place + length_at c.attributes.place c.args.bytes.now) = ap
    (λ (n : ℕ). unsound_of c.args.bytes.now (c.attributes.place + n)) c.length_at.ensures in
    record {
      within = omega (arith, c.length_at.ensures);
      same = at ∙ sym goes ∙ c.attributes.invariant.same;
    }

pub returns-clause-unsound : goal.returns-clause-unsound
returns-clause-unsound c =
    let e : is_end (in_use_of c.args.bytes.now) c.attributes.place c.args.bytes.now ≡ true =
    rw (← c.requires.is_used) (sym c.is_end.ensures ∙ c.attributes-test.false) in
    sym (unsound_of-end c.args.bytes.now c.attributes.place e) ∙ c.attributes.invariant.same
