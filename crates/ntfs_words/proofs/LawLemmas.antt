-- What each tool makes of words of any kind.
use Rattle.std.proofs.Common.{◌≡◌, ◌∙◌, true, false, List, [], ◌∷◌, refl, codes, Result, Ok, Err, Some, None, ℕ}
use Rattle.std.specs.Str.{bytes_eq}
use Rattle.clap.specs.Words.{App, Kinds, Row, Text, fault_of, matches_of}
use Rattle.clap.specs.declared.error.kind.ErrorKind.{ErrorKind}
use Rattle.clap.proofs.OnLiterals.{clap_on_literals}
use Rattle.ntfs_base.specs.Frames.{◌>>=◌}
use Rattle.ntfs_base.specs.declared.refusal.UsageKind.TheVariants as usage
use Rattle.ntfs_words.proofs.LineLemmas.{refused, taken}
use Rattle.ntfs_words.specs.Cat.{cat_app, cat_asked, cat_request, cat_target}
use Rattle.ntfs_words.specs.Clone.{are_same, clone_app, clone_asked, clone_request, has_clash, has_gap, has_output}
use Rattle.ntfs_words.specs.Cluster.{ask_in, cluster_app, cluster_asked, cluster_request}
use Rattle.ntfs_words.specs.Cp.{cp_app, cp_asked, cp_request, cp_target}
use Rattle.ntfs_words.specs.Fix.{fix_app, fix_asked, fix_request}
use Rattle.ntfs_words.specs.Info.{info_app, info_asked, info_request}
use Rattle.ntfs_words.specs.Line.{is_on, line_of, text_of, word_of}
use Rattle.ntfs_words.specs.Ls.{ls_app, ls_asked, ls_request}
use Rattle.ntfs_words.specs.Make.{is_in_range, make_app, make_asked, make_request}
use Rattle.ntfs_words.specs.Numbers.{number_of}
use Rattle.ntfs_words.specs.Resize.{resize_app, resize_asked, resize_request}
use Rattle.ntfs_words.specs.Tool.{tool_name, tool_named}
use Rattle.ntfs_words.specs.Trial.{trial_app, trial_asked, trial_request}
use Rattle.ntfs_words.specs.Values.{kind_in, size_in}
use Rattle.ntfs_words.specs.Words.{asked}
use Rattle.ntfs_words.specs.declared.request.Ask.TheVariants as ask
use Rattle.ntfs_words.specs.declared.request.Request.{Request}
use Rattle.ntfs_words.specs.declared.request.Request.TheVariants as request
use Rattle.ntfs_words.specs.declared.request.Target.TheVariants as target
use Rattle.ntfs_words.specs.declared.request.WordsFault.{WordsFault}
use Rattle.ntfs_words.specs.declared.request.WordsFault.TheVariants.{Usage}
use Rattle.ntfs_words.specs.declared.tool.Tool.{Tool}
use Rattle.ntfs_words.specs.declared.tool.Tool.TheVariants as tool

refuses : (app : App) (words : List Text) (asks : List Row → Result Request WordsFault) (kind : ErrorKind) (kinds : Kinds)
    → fault_of app words ≡ kind ∷ kinds → (line_of app words >>= asks) ≡ Err (Usage usage.Line)
refuses app words asks kind kinds some = rw (refused app words kind kinds some) refl

gives : (app : App) (words : List Text) (asks : List Row → Result Request WordsFault)
    → fault_of app words ≡ [] → (line_of app words >>= asks) ≡ asks (matches_of app words)
gives app words asks none = rw (taken app words none) refl

-- ---- an option that no tool has

info_unknown : (word : Text) (words : List Text) → info_asked (word ∷ codes "-z" ∷ words) ≡ Err (Usage usage.Line)
unfolding info_asked info_app clap_on_literals
info_unknown word words = refuses info_app (word ∷ codes "-z" ∷ words) info_request _ _ refl

ls_unknown : (word : Text) (words : List Text) → ls_asked (word ∷ codes "-z" ∷ words) ≡ Err (Usage usage.Line)
unfolding ls_asked ls_app clap_on_literals
ls_unknown word words = refuses ls_app (word ∷ codes "-z" ∷ words) ls_request _ _ refl

cat_unknown : (word : Text) (words : List Text) → cat_asked (word ∷ codes "-z" ∷ words) ≡ Err (Usage usage.Line)
unfolding cat_asked cat_app clap_on_literals
cat_unknown word words = refuses cat_app (word ∷ codes "-z" ∷ words) cat_request _ _ refl

cluster_unknown : (word : Text) (words : List Text) → cluster_asked (word ∷ codes "-z" ∷ words) ≡ Err (Usage usage.Line)
unfolding cluster_asked cluster_app clap_on_literals
cluster_unknown word words = refuses cluster_app (word ∷ codes "-z" ∷ words) cluster_request _ _ refl

cp_unknown : (word : Text) (words : List Text) → cp_asked (word ∷ codes "-z" ∷ words) ≡ Err (Usage usage.Line)
unfolding cp_asked cp_app clap_on_literals
cp_unknown word words = refuses cp_app (word ∷ codes "-z" ∷ words) cp_request _ _ refl

clone_unknown : (word : Text) (words : List Text) → clone_asked (word ∷ codes "-z" ∷ words) ≡ Err (Usage usage.Line)
unfolding clone_asked clone_app clap_on_literals
clone_unknown word words = refuses clone_app (word ∷ codes "-z" ∷ words) clone_request _ _ refl

resize_unknown : (word : Text) (words : List Text) → resize_asked (word ∷ codes "-z" ∷ words) ≡ Err (Usage usage.Line)
unfolding resize_asked resize_app clap_on_literals
resize_unknown word words = refuses resize_app (word ∷ codes "-z" ∷ words) resize_request _ _ refl

fix_unknown : (word : Text) (words : List Text) → fix_asked (word ∷ codes "-z" ∷ words) ≡ Err (Usage usage.Line)
unfolding fix_asked fix_app clap_on_literals
fix_unknown word words = refuses fix_app (word ∷ codes "-z" ∷ words) fix_request _ _ refl

make_unknown : (word : Text) (words : List Text) → make_asked (word ∷ codes "-z" ∷ words) ≡ Err (Usage usage.Line)
unfolding make_asked make_app clap_on_literals
make_unknown word words = refuses make_app (word ∷ codes "-z" ∷ words) make_request _ _ refl

trial_unknown : (word : Text) (words : List Text) → trial_asked (word ∷ codes "-z" ∷ words) ≡ Err (Usage usage.Line)
unfolding trial_asked trial_app clap_on_literals
trial_unknown word words = refuses trial_app (word ∷ codes "-z" ∷ words) trial_request _ _ refl

pub unknown : (tool : Tool) (words : List Text) → asked (tool_name tool ∷ codes "-z" ∷ words) ≡ Err (Usage usage.Line)
unfolding tool_name tool_named
unknown tool.Info words = info_unknown (codes "ntfsinfo") words
unknown tool.Ls words = ls_unknown (codes "ntfsls") words
unknown tool.Cat words = cat_unknown (codes "ntfscat") words
unknown tool.Cluster words = cluster_unknown (codes "ntfscluster") words
unknown tool.Cp words = cp_unknown (codes "ntfscp") words
unknown tool.Clone words = clone_unknown (codes "ntfsclone") words
unknown tool.Resize words = resize_unknown (codes "ntfsresize") words
unknown tool.Fix words = fix_unknown (codes "ntfsfix") words
unknown tool.Make words = make_unknown (codes "ntfsmake") words
unknown tool.Trial words = trial_unknown (codes "ntfstrial") words

-- ---- an option twice

pub ls_twice : (word : Text) (words : List Text) → ls_asked (word ∷ codes "-a" ∷ codes "-a" ∷ words) ≡ Err (Usage usage.Line)
unfolding ls_asked ls_app clap_on_literals
ls_twice word words = refuses ls_app (word ∷ codes "-a" ∷ codes "-a" ∷ words) ls_request _ _ refl

pub cat_twice : (word : Text) (words : List Text) → cat_asked (word ∷ codes "-i1" ∷ codes "-i1" ∷ words) ≡ Err (Usage usage.Line)
unfolding cat_asked cat_app clap_on_literals
cat_twice word words = refuses cat_app (word ∷ codes "-i1" ∷ codes "-i1" ∷ words) cat_request _ _ refl

pub cluster_twice : (word : Text) (words : List Text) → cluster_asked (word ∷ codes "-i" ∷ codes "-i" ∷ words) ≡ Err (Usage usage.Line)
unfolding cluster_asked cluster_app clap_on_literals
cluster_twice word words = refuses cluster_app (word ∷ codes "-i" ∷ codes "-i" ∷ words) cluster_request _ _ refl

pub cp_twice : (word : Text) (words : List Text) → cp_asked (word ∷ codes "-n" ∷ codes "-n" ∷ words) ≡ Err (Usage usage.Line)
unfolding cp_asked cp_app clap_on_literals
cp_twice word words = refuses cp_app (word ∷ codes "-n" ∷ codes "-n" ∷ words) cp_request _ _ refl

pub clone_twice : (word : Text) (words : List Text) → clone_asked (word ∷ codes "-s" ∷ codes "-s" ∷ words) ≡ Err (Usage usage.Line)
unfolding clone_asked clone_app clap_on_literals
clone_twice word words = refuses clone_app (word ∷ codes "-s" ∷ codes "-s" ∷ words) clone_request _ _ refl

pub resize_twice : (word : Text) (words : List Text) → resize_asked (word ∷ codes "-s1" ∷ codes "-s1" ∷ words) ≡ Err (Usage usage.Line)
unfolding resize_asked resize_app clap_on_literals
resize_twice word words = refuses resize_app (word ∷ codes "-s1" ∷ codes "-s1" ∷ words) resize_request _ _ refl

pub fix_twice : (word : Text) (words : List Text) → fix_asked (word ∷ codes "--rebuild" ∷ codes "--rebuild" ∷ words) ≡ Err (Usage usage.Line)
unfolding fix_asked fix_app clap_on_literals
fix_twice word words = refuses fix_app (word ∷ codes "--rebuild" ∷ codes "--rebuild" ∷ words) fix_request _ _ refl

-- ---- any words behind `--`

pub ls_behind : (word image : Text) → ls_asked (word ∷ codes "--" ∷ image ∷ []) ≡ Ok (request.Ls false false false false false false None image)
unfolding ls_asked ls_app ls_request clap_on_literals is_on word_of
ls_behind word image = gives ls_app (word ∷ codes "--" ∷ image ∷ []) ls_request refl ∙ refl

pub cat_behind : (word image path : Text) → cat_asked (word ∷ codes "--" ∷ image ∷ path ∷ []) ≡ Ok (request.Cat (target.Path path) 128 None image)
unfolding cat_asked cat_app cat_request clap_on_literals is_on word_of cat_target kind_in
cat_behind word image path = gives cat_app (word ∷ codes "--" ∷ image ∷ path ∷ []) cat_request refl ∙ refl

pub cluster_behind : (word image : Text) → cluster_asked (word ∷ codes "-i" ∷ codes "--" ∷ image ∷ []) ≡ Ok (request.Cluster ask.Info image)
unfolding cluster_asked cluster_app cluster_request clap_on_literals is_on word_of ask_in
cluster_behind word image = gives cluster_app (word ∷ codes "-i" ∷ codes "--" ∷ image ∷ []) cluster_request refl ∙ refl

pub clone_behind : (word source : Text) → clone_asked (word ∷ codes "-s" ∷ codes "--" ∷ source ∷ []) ≡ Ok (request.Clone true false false false None false (Some source))
unfolding clone_asked clone_app clone_request clap_on_literals is_on word_of has_clash has_gap has_output are_same
clone_behind word source = gives clone_app (word ∷ codes "-s" ∷ codes "--" ∷ source ∷ []) clone_request refl ∙ refl

pub resize_behind : (word image : Text) → resize_asked (word ∷ codes "--" ∷ image ∷ []) ≡ Ok (request.Resize false false false None image)
unfolding resize_asked resize_app resize_request clap_on_literals is_on word_of size_in
resize_behind word image = gives resize_app (word ∷ codes "--" ∷ image ∷ []) resize_request refl ∙ refl

pub fix_behind : (word image : Text) → fix_asked (word ∷ codes "--" ∷ image ∷ []) ≡ Ok (request.Fix false false false false image)
unfolding fix_asked fix_app fix_request clap_on_literals is_on word_of
fix_behind word image = gives fix_app (word ∷ codes "--" ∷ image ∷ []) fix_request refl ∙ refl

cp_apart : (rows : List Row) (image source path : Text) → word_of (codes "IMAGE") rows ≡ Ok image → word_of (codes "SOURCE") rows ≡ Ok source → word_of (codes "DEST") rows ≡ Ok path
    → is_on (codes "inode") rows ≡ false → kind_in (text_of (codes "attribute") rows) ≡ Ok 128 → is_on (codes "no-action") rows ≡ false → text_of (codes "attr-name") rows ≡ None
    → bytes_eq image source ≡ false → cp_request rows ≡ Ok (request.Cp 128 None false image source (target.Path path))
unfolding cp_request cp_target
cp_apart rows image source path a b c d e f g differ = rw (a, b, c, d, e, differ, f, g) refl

pub cp_behind : (word image source path : Text) → bytes_eq image source ≡ false → cp_asked (word ∷ codes "--" ∷ image ∷ source ∷ path ∷ []) ≡ Ok (request.Cp 128 None false image source (target.Path path))
unfolding cp_asked cp_app clap_on_literals is_on word_of kind_in
cp_behind word image source path differ =
    gives cp_app (word ∷ codes "--" ∷ image ∷ source ∷ path ∷ []) cp_request refl
    ∙ cp_apart (matches_of cp_app (word ∷ codes "--" ∷ image ∷ source ∷ path ∷ [])) image source path refl refl refl refl refl refl refl differ

trial_from : (rows : List Row) (seed name : Text) (n : ℕ) → word_of (codes "SEED") rows ≡ Ok seed → word_of (codes "NAME") rows ≡ Ok name
    → number_of seed ≡ Some n → trial_request rows ≡ Ok (request.Trial n name)
unfolding trial_request
trial_from rows seed name n a b is = rw (a, b, is) refl

pub trial_behind : (word seed name : Text) (n : ℕ) → number_of seed ≡ Some n → trial_asked (word ∷ codes "--" ∷ seed ∷ name ∷ []) ≡ Ok (request.Trial n name)
unfolding trial_asked trial_app clap_on_literals word_of
trial_behind word seed name n is =
    gives trial_app (word ∷ codes "--" ∷ seed ∷ name ∷ []) trial_request refl
    ∙ trial_from (matches_of trial_app (word ∷ codes "--" ∷ seed ∷ name ∷ [])) seed name n refl refl is

make_from : (rows : List Row) (file seed clusters cluster : Text) (s n c : ℕ)
    → word_of (codes "FILE") rows ≡ Ok file → word_of (codes "SEED") rows ≡ Ok seed → word_of (codes "CLUSTERS") rows ≡ Ok clusters → word_of (codes "CLUSTER") rows ≡ Ok cluster
    → number_of seed ≡ Some s → number_of clusters ≡ Some n → number_of cluster ≡ Some c → is_in_range n c ≡ true → make_request rows ≡ Ok (request.Make file s n c)
unfolding make_request
make_from rows file seed clusters cluster s n c at_file at_seed at_clusters at_cluster is_s is_n is_c within = rw (at_file, at_seed, at_clusters, at_cluster, is_s, is_n, is_c, within) refl

pub make_behind : (word file seed clusters cluster : Text) (s n c : ℕ) → number_of seed ≡ Some s → number_of clusters ≡ Some n → number_of cluster ≡ Some c → is_in_range n c ≡ true
    → make_asked (word ∷ codes "--" ∷ file ∷ seed ∷ clusters ∷ cluster ∷ []) ≡ Ok (request.Make file s n c)
unfolding make_asked make_app clap_on_literals word_of
make_behind word file seed clusters cluster s n c is_s is_n is_c within =
    gives make_app (word ∷ codes "--" ∷ file ∷ seed ∷ clusters ∷ cluster ∷ []) make_request refl
    ∙ make_from (matches_of make_app (word ∷ codes "--" ∷ file ∷ seed ∷ clusters ∷ cluster ∷ [])) file seed clusters cluster s n c refl refl refl refl is_s is_n is_c within
