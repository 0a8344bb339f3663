use Rattle.std.proofs.Common.{List, ℕ, ◌++◌, [], ◌∷◌, Ok, ap, sym, ◌∙◌}
use Rattle.std.proofs.lemmas.Result.{err_from_is_err_and}
use Rattle.ntfs_directory.specs.Entries.{key_name}
use Rattle.ntfs_directory.specs.State.{left_of}
use Rattle.ntfs_upcase.specs.Names.{text_bytes}
use Rattle.ntfs_show.specs.declared.listing.Descent.{Descent}
use Rattle.ntfs_show.specs.declared.listing.Level.{Level}
use Rattle.ntfs_show.proofs.DescentLemmas.{descent-entered, descent-few, descent-fewer, descent-kept, descent-refused}
use Rattle.ntfs_show.proofs.listing.Descent.enter.Goals as goal

pub returns-clause-told : goal.returns-clause-told
returns-clause-told g c o told =
    let is = c.requires.descent in
    let old = c.args.self.now in
    let image = (g.G.Image.seen c.args.image.now).content in
    let after = c.replace-parent.ensures.after in
    let few =
    descent-few c.args.table.now _ c.args.number old c.meet.new.met.keys is c.requires.below c.requires.new
    c.in_ok-meet.ensures.one in
    let new : Descent =
    record {
      alloc = old.alloc;
      present = c.replace-parent.new.dest;
      above = c.push_level.new.levels;
      path =
          c.extend_from_slice.new.self;
      met = c.meet.new.met;
    } in
    descent-entered o c.args.table.now image _ c.args.number old new few.0 is.path
    (c.in_ok-push_level.ensures ∙ ap (λ (l : Level). old.above.items ++ l ∷ []) c.replace-parent.ensures.value)
    (c.in_ok-extend_from_slice.ensures.items ∙ ap (λ (xs : List ℕ). old.path.items ++ xs) (c.deref.ensures.value
    ∙ c.in_ok-name.ensures ∙ ap (λ (k : List ℕ). text_bytes (key_name k) ++ 47 ∷ []) c.key.ensures))
    c.in_ok-meet.ensures.also
    (ap (λ (l : Level). l.directory.number) after ∙ c.in_ok-child.ensures.walked.bears)
    (c.in_ok-child.ensures.gives told
    ∙ ap (λ (l : Level). Ok (left_of c.args.table.now.geometry image l.directory)) (sym after))

pub returns-in_err-child-clause-told : goal.returns-in_err-child-clause-told
returns-in_err-child-clause-told g c o told =
    let is = c.requires.descent in
    let few =
    descent-few c.args.table.now _ c.args.number c.args.self.now c.meet.new.met.keys is c.requires.below c.requires.new
    c.in_ok-meet.ensures.one in
    let p = err_from_is_err_and c.from_residual-in_err-child.result c.from_residual-in_err-child.ensures.1 in
    rw (p.1, p.2)
    (λ settled. descent-refused o c.args.table.now (g.G.Image.seen c.args.image.now).content _ c.args.number
    c.args.self.now c.in_err-child.field-0.0 few.0 (c.in_err-child.ensures.gives told settled))

pub returns-clause-descent : goal.returns-clause-descent
returns-clause-descent g c =
    let is = c.requires.descent in
    let old = c.args.self.now in
    let after = c.replace-parent.ensures.after in
    let new : Descent =
    record {
      alloc = old.alloc;
      present = c.replace-parent.new.dest;
      above = c.push_level.new.levels;
      path =
          c.extend_from_slice.new.self;
      met = c.meet.new.met;
    } in
    descent-kept c.args.table.now _ c.args.number old new is c.requires.below c.requires.new c.in_ok-meet.ensures.one
    (c.in_ok-push_level.ensures ∙ ap (λ (l : Level). old.above.items ++ l ∷ []) c.replace-parent.ensures.value)
    (c.in_ok-extend_from_slice.ensures.items ∙ ap (λ (xs : List ℕ). old.path.items ++ xs) (c.deref.ensures.value
    ∙ ap (λ name. name.items) (sym c.in_ok-child.ensures.named) ∙ ap (λ (l : Level). l.name.items) (sym after)))
    (rw (after, c.in_ok-child.ensures.bears) c.in_ok-child.ensures.walked)

pub returns-clause-fewer : goal.returns-clause-fewer
returns-clause-fewer g c =
    let is = c.requires.descent in
    let old = c.args.self.now in
    let new : Descent =
    record {
      alloc = old.alloc;
      present = c.replace-parent.new.dest;
      above = c.push_level.new.levels;
      path =
          c.extend_from_slice.new.self;
      met = c.meet.new.met;
    } in
    descent-fewer c.args.table.now _ c.args.number old new is c.requires.below c.requires.new c.in_ok-meet.ensures.one
    (c.in_ok-push_level.ensures ∙ ap (λ (l : Level). old.above.items ++ l ∷ []) c.replace-parent.ensures.value)
