-- What a tool promises beyond its outcome, from its reply.
use Rattle.std.proofs.Common.{ℕ, true, false, List, refl, Result, Ok, Some, None}
use Rattle.ntfs_base.specs.Shelf.{Files}
use Rattle.ntfs_base.specs.Sink.{SinkState}
use Rattle.ntfs_words.specs.declared.request.Request.{Request}
use Rattle.ntfs_words.specs.declared.request.Request.TheVariants as request
use Rattle.ntfs_words.specs.declared.request.WordsFault.{WordsFault}
use Rattle.ntfs_run.specs.Clone.{restore_work, save_work}
use Rattle.ntfs_run.specs.Headline.{Promises}
use Rattle.ntfs_run.specs.Outcome.{Does}
use Rattle.ntfs_run.specs.Reply.{outcome_for}
use Rattle.ntfs_run.specs.declared.status.Status.{Status}
use Rattle.ntfs_run.specs.declared.status.Status.TheVariants as status
use Rattle.ntfs_run.proofs.HeadlineLemmas.{copies_file, restores_file, saves_file, saves_output}
use Rattle.ntfs_run.proofs.TriedLemmas.{tries_volume}

pub promise_kept : (reading : Result Request WordsFault) (s : Status) (old left : Files) (input : List ℕ) (before after : SinkState)
    → Does (outcome_for reading old input) s before after left → Promises reading s old input before left after
promise_kept (Ok (request.Clone true false no_action force (Some output) overwrite (Some source))) status.Done old left input before after does =
    saves_file force overwrite source old left before after output (save_work true force (Some output) overwrite (Some source) old) refl does
promise_kept (Ok (request.Clone true false no_action force None overwrite (Some source))) status.Done old left input before after does =
    saves_output force overwrite source old left before after (save_work true force None overwrite (Some source) old) refl does
promise_kept (Ok (request.Clone false false no_action force (Some output) overwrite (Some source))) status.Done old left input before after does =
    copies_file force overwrite source old left before after output (save_work false force (Some output) overwrite (Some source) old) refl does
promise_kept (Ok (request.Clone save true no_action force (Some output) overwrite source)) status.Done old left input before after does =
    restores_file output overwrite source old left input before after (restore_work (Some output) overwrite source old input) refl does
promise_kept (Ok (request.Trial seed name)) status.Done old left input before after does = tries_volume seed name old left before after does
promise_kept reading other old left input before after does = tt

-- nothing is promised where memory was wanting
pub no_promise : (reading : Result Request WordsFault) (old : Files) (input : List ℕ) (before : SinkState) (left : Files) (after : SinkState)
    → Promises reading status.NoMemory old input before left after
no_promise (Ok (request.Clone true false no_action force (Some output) overwrite (Some source))) old input before left after = tt
no_promise (Ok (request.Clone true false no_action force None overwrite (Some source))) old input before left after = tt
no_promise (Ok (request.Clone false false no_action force (Some output) overwrite (Some source))) old input before left after = tt
no_promise (Ok (request.Clone save true no_action force (Some output) overwrite source)) old input before left after = tt
no_promise (Ok (request.Trial seed name)) old input before left after = tt
no_promise reading old input before left after = tt
