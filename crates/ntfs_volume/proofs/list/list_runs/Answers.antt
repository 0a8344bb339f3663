use Rattle.std.proofs.Common.{◌≤◌, ◌*◌, ◌∙◌, sym, ap, subst, ℕ, length, arith, true, false, Err}
use Rattle.ntfs_record.specs.Views.{shown_body}
use Rattle.ntfs_record.specs.declared.attribute.Body.{Body}
use Rattle.ntfs_runs.specs.Cells.{cells_below}
use Rattle.ntfs_runs.specs.Clusters.{vcns}
use Rattle.ntfs_volume.specs.Views.{told_view}
use Rattle.ntfs_volume.proofs.ListLemmas.{below-right, below-wrong, fits-list, readable-none, readable-right, readable-wrong}
use Rattle.ntfs_volume.proofs.list.list_runs.Goals as goal

pub returns-in-Resident-clause-gives : goal.returns-in-Resident-clause-gives
returns-in-Resident-clause-gives c settled =
    readable-none c.args.geometry.now (told_view c.args.list.now).body (ap (λ (b : Body). (shown_body b).pairs) c.in-Resident.is) ∙ ap Err (sym c.no_map.ensures)

pub returns-in-Err-BadPairs-clause-gives : goal.returns-in-Err-BadPairs-clause-gives
returns-in-Err-BadPairs-clause-gives c settled =
    let wrong = rw c.in-Err-BadPairs.field-0-is at c.in-Err-BadPairs.ensures.exact in
    let n = c.args.geometry.now.clusters in
    readable-wrong c.args.geometry.now (told_view c.args.list.now).body (ap (λ (b : Body). (cells_below n (shown_body b).pairs).is_right) c.in-Runs.is ∙ below-wrong n c.in-Runs.pairs.now wrong.0)
    ∙ ap Err (sym c.no_map-in-Err-BadPairs.ensures)

pub returns-then-not-lies_below-clause-gives : goal.returns-then-not-lies_below-clause-gives
returns-then-not-lies_below-clause-gives c settled =
    let n = c.args.geometry.now.clusters in
    let cells = below-right n c.in-Runs.pairs.now c.in-Ok.runs c.in-Ok.ensures.exact.0 c.in-Ok.ensures.exact.1 in
    readable-wrong c.args.geometry.now (told_view c.args.list.now).body (ap (λ (b : Body). (cells_below n (shown_body b).pairs).is_right) c.in-Runs.is ∙ cells.0 ∙ sym c.lies_below.ensures ∙ c.if-not-lies_below.true)
    ∙ ap Err (sym c.no_map-then-not-lies_below.ensures)

pub returns-then-not-is_readable_list-clause-gives : goal.returns-then-not-is_readable_list-clause-gives
returns-then-not-is_readable_list-clause-gives c settled =
    let body = c.in-Runs.is in
    readable-right c.args.geometry.now (told_view c.args.list.now).body c.in-Runs.pairs.now c.in-Ok.runs c.in-Runs.lowest c.in-Runs.next c.in-Runs.size c.in-Runs.valid c.vcn_count.result false
    (ap (λ (b : Body). (shown_body b).pairs) body) (ap (λ (b : Body). (shown_body b).lowest) body) (ap (λ (b : Body). (shown_body b).next) body) (ap (λ (b : Body). (shown_body b).size) body) (ap (λ (b : Body). (shown_body b).valid) body)
    c.in-Ok.ensures.exact.0 c.in-Ok.ensures.exact.1 (sym c.lies_below.ensures ∙ c.if-not-lies_below.false) c.vcn_count.ensures.count (sym c.is_readable_list.ensures ∙ c.if-not-is_readable_list.true)
    ∙ ap Err (sym c.no_map-then-not-is_readable_list.ensures)

pub returns-else-not-is_readable_list-clause-gives : goal.returns-else-not-is_readable_list-clause-gives
returns-else-not-is_readable_list-clause-gives c =
    let body = c.in-Runs.is in
    readable-right c.args.geometry.now (told_view c.args.list.now).body c.in-Runs.pairs.now c.in-Ok.runs c.in-Runs.lowest c.in-Runs.next c.in-Runs.size c.in-Runs.valid c.vcn_count.result true
    (ap (λ (b : Body). (shown_body b).pairs) body) (ap (λ (b : Body). (shown_body b).lowest) body) (ap (λ (b : Body). (shown_body b).next) body) (ap (λ (b : Body). (shown_body b).size) body) (ap (λ (b : Body). (shown_body b).valid) body)
    c.in-Ok.ensures.exact.0 c.in-Ok.ensures.exact.1 (sym c.lies_below.ensures ∙ c.if-not-lies_below.false) c.vcn_count.ensures.count (sym c.is_readable_list.ensures ∙ c.if-not-is_readable_list.false)

pub returns-else-not-is_readable_list-clause-fits : goal.returns-else-not-is_readable_list-clause-fits
returns-else-not-is_readable_list-clause-fits c =
    let body = c.in-Runs.is in
    let fits = fits-list c.in-Runs.lowest c.in-Runs.next c.in-Runs.size c.in-Runs.valid c.args.geometry.now.cluster c.vcn_count.result (sym c.is_readable_list.ensures ∙ c.if-not-is_readable_list.false) in
    let size = ap (λ (b : Body). (shown_body b).size) body in
    let valid = ap (λ (b : Body). (shown_body b).valid) body in
    let room : c.in-Runs.size ≤ length (vcns c.in-Ok.runs) * c.args.geometry.now.cluster = subst (λ (n : ℕ). c.in-Runs.size ≤ n * c.args.geometry.now.cluster) c.vcn_count.ensures.count fits.0 in
    record { room = omega (arith, size, room); valid = omega (arith, size, valid, fits.1); most = omega (arith, size, fits.2) }
