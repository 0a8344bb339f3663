-- Which refusals the words of each tool can have.
use Rattle.std.proofs.Common.{◌≡◌, Bool, true, false, List, sym, subst, Result, Ok, Err, Option, Some, None, IfErr, ok_or}
use Rattle.std.specs.Prelude.{◌==◌, ◌||◌, codes, length, not, if◌then◌else◌}
use Rattle.clap.specs.Words.{App, Row, Text, fault_of, matches_of}
use Rattle.ntfs_base.specs.Frames.{must, ◌>>=◌}
use Rattle.ntfs_base.specs.declared.refusal.UsageKind.TheVariants as usage
use Rattle.ntfs_words.specs.Answers.{CanFail}
use Rattle.ntfs_words.specs.Cat.{cat_asked, cat_request, cat_target}
use Rattle.ntfs_words.specs.Clone.{are_same, clone_asked, clone_request, has_clash, has_gap, output_word}
use Rattle.ntfs_words.specs.Cluster.{ask_in, cluster_asked, cluster_request}
use Rattle.ntfs_words.specs.Cp.{cp_asked, cp_request, cp_target}
use Rattle.ntfs_words.specs.Fix.{fix_asked, fix_request}
use Rattle.ntfs_words.specs.Info.{info_asked, info_request}
use Rattle.ntfs_words.specs.Line.{Reads, line_of, text_of, word_of}
use Rattle.ntfs_words.specs.Numbers.{kind_of, number_of, range_of, size_of}
use Rattle.ntfs_words.specs.Ls.{ls_asked, ls_request}
use Rattle.ntfs_words.specs.Make.{make_asked, make_request}
use Rattle.ntfs_words.specs.Resize.{resize_asked, resize_request}
use Rattle.ntfs_words.specs.Trial.{trial_asked, trial_request}
use Rattle.ntfs_words.specs.Values.{combination, kind_in, no_number, number_in, number_word, range_word, same_name_usage, size_in}
use Rattle.ntfs_words.specs.Words.{tool_asked}
use Rattle.ntfs_words.specs.declared.request.Request.{Request}
use Rattle.ntfs_words.specs.declared.request.WordsFault.{WordsFault}
use Rattle.ntfs_words.specs.declared.request.WordsFault.TheVariants.{Usage, NoMemory}
use Rattle.ntfs_words.specs.declared.tool.Tool.{Tool}
use Rattle.ntfs_words.specs.declared.tool.Tool.TheVariants.{Info, Ls, Cat, Cluster, Cp, Clone, Resize, Fix, Make, Trial}

-- ---- steps

-- each refusal is of this kind
record Fails {A E : Type 0} (P : E → Type 0) (r : Result A E) : Type 0 where
  pub is : IfErr r P

no_fault : {A E : Type 0} (P : E → Type 0) (x : A) → Fails P (Ok x)
no_fault P x = record { is = tt }

fault : {A E : Type 0} (P : E → Type 0) (e : E) → P e → Fails {A = A} P (Err e)
fault P e is = record { is = is }

after : {A B E : Type 0} (P : E → Type 0) (r : Result A E) (f : A → Result B E) → Fails P r → ((x : A) → Fails P (f x)) → Fails P (r >>= f)
after P (Ok x) f first rest = rest x
after P (Err e) f first rest = record { is = first.is }

given : {A E : Type 0} (P : E → Type 0) (o : Option A) (e : E) → P e → Fails P (ok_or o e)
given P (Some x) e is = record { is = tt }
given P None e is = record { is = is }

tested : {E : Type 0} (P : E → Type 0) (b : Bool) (e : E) → P e → Fails P (must b e)
tested P true e is = record { is = tt }
tested P false e is = record { is = is }

if_not : {A E : Type 0} (P : E → Type 0) (b : Bool) (x : A) (e : E) → P e → Fails P (if b then Ok x else Err e)
if_not P true x e is = record { is = tt }
if_not P false x e is = record { is = is }

line : (P : WordsFault → Type 0) (app : App) (words : List Text) → P (Usage usage.Line) → Fails P (line_of app words)
unfolding line_of
line P app words is = if_not P (length (fault_of app words) == 0) (matches_of app words) (Usage usage.Line) is

word : (P : WordsFault → Type 0) (id : Text) (rows : List Row) → P (Usage usage.Line) → Fails P (word_of id rows)
unfolding word_of
word P id rows is = given P (text_of id rows) (Usage usage.Line) is

number : (P : WordsFault → Type 0) (text : Text) → P no_number → Fails P (number_word text)
number P text is = given P (number_of text) no_number is

a_number : (P : WordsFault → Type 0) (o : Option Text) → P no_number → Fails P (number_in o)
unfolding number_in
a_number P None is = no_fault P None
a_number P (Some text) is = after P (number_word text) (λ number. Ok (Some number)) (number P text is) (λ number. no_fault P (Some number))

a_kind : (P : WordsFault → Type 0) (o : Option Text) → P no_number → Fails P (kind_in o)
unfolding kind_in
a_kind P None is = no_fault P 128
a_kind P (Some text) is = given P (kind_of text) no_number is

a_size : (P : WordsFault → Type 0) (o : Option Text) → P no_number → Fails P (size_in o)
unfolding size_in
a_size P None is = no_fault P None
a_size P (Some text) is =
    after P (ok_or (size_of text) no_number) (λ size. Ok (Some size)) (given P (size_of text) no_number is) (λ size. no_fault P (Some size))

-- ---- tools

info : (words : List Text) → Fails (CanFail (Some Info)) (info_asked words)
unfolding info_asked info_request
info words =
    let P = CanFail (Some Info) in
    after P _ _ (line P _ words tt) (λ rows. after P _ _ (word P _ rows tt) (λ image. after P _ _ (tested P _ _ tt) (λ one.
    after P _ _ (a_number P _ tt) (λ number. no_fault P _))))

ls : (words : List Text) → Fails (CanFail (Some Ls)) (ls_asked words)
unfolding ls_asked ls_request
ls words =
    let P = CanFail (Some Ls) in
    after P _ _ (line P _ words tt) (λ rows. after P _ _ (word P _ rows tt) (λ image. no_fault P _))

target : (number path : Option Text) → Fails (CanFail (Some Cat)) (cat_target number path)
unfolding cat_target
target (Some text) None = after (CanFail (Some Cat)) (number_word text) _ (number (CanFail (Some Cat)) text tt) (λ value. no_fault (CanFail (Some Cat)) _)
target None (Some path) = no_fault (CanFail (Some Cat)) _
target number path = fault (CanFail (Some Cat)) combination tt

cat : (words : List Text) → Fails (CanFail (Some Cat)) (cat_asked words)
unfolding cat_asked cat_request
cat words =
    let P = CanFail (Some Cat) in
    after P _ _ (line P _ words tt) (λ rows. after P _ _ (word P _ rows tt) (λ image. after P _ _ (target _ _) (λ stream.
    after P _ _ (a_kind P _ tt) (λ kind. no_fault P _))))

question : (info : Bool) (range number path : Option Text) → Fails (CanFail (Some Cluster)) (ask_in info range number path)
unfolding ask_in
question true range number path = no_fault (CanFail (Some Cluster)) _
question false (Some range) number path =
    after (CanFail (Some Cluster)) (range_word range) _ (given (CanFail (Some Cluster)) (range_of range) no_number tt) (λ value. no_fault (CanFail (Some Cluster)) _)
question false None (Some text) path =
    after (CanFail (Some Cluster)) (number_word text) _ (number (CanFail (Some Cluster)) text tt) (λ value. no_fault (CanFail (Some Cluster)) _)
question false None None (Some path) = no_fault (CanFail (Some Cluster)) _
question false None None None = fault (CanFail (Some Cluster)) combination tt

cluster : (words : List Text) → Fails (CanFail (Some Cluster)) (cluster_asked words)
unfolding cluster_asked cluster_request
cluster words =
    let P = CanFail (Some Cluster) in
    after P _ _ (line P _ words tt) (λ rows. after P _ _ (word P _ rows tt) (λ image. after P _ _ (tested P _ _ tt) (λ one.
    after P _ _ (question _ _ _ _) (λ question. no_fault P _))))

stream : (by_number : Bool) (text : Text) → Fails (CanFail (Some Cp)) (cp_target by_number text)
unfolding cp_target
stream false text = no_fault (CanFail (Some Cp)) _
stream true text = after (CanFail (Some Cp)) (number_word text) _ (number (CanFail (Some Cp)) text tt) (λ value. no_fault (CanFail (Some Cp)) _)

cp : (words : List Text) → Fails (CanFail (Some Cp)) (cp_asked words)
unfolding cp_asked cp_request
cp words =
    let P = CanFail (Some Cp) in
    after P _ _ (line P _ words tt) (λ rows. after P _ _ (word P _ rows tt) (λ image. after P _ _ (word P _ rows tt) (λ source.
    after P _ _ (word P _ rows tt) (λ dest. after P _ _ (stream _ _) (λ stream. after P _ _ (a_kind P _ tt) (λ kind.
    after P _ _ (tested P _ _ tt) (λ other. no_fault P _)))))))

clone : (words : List Text) → Fails (CanFail (Some Clone)) (clone_asked words)
unfolding clone_asked clone_request
clone words =
    let P = CanFail (Some Clone) in
    after P _ _ (line P _ words tt) (λ rows. after P _ _ (tested P (not (has_clash rows || has_gap rows)) combination tt) (λ fit.
    after P _ _ (tested P (not (are_same (text_of (codes "SOURCE") rows) (output_word rows))) same_name_usage tt) (λ other. no_fault P _)))

resize : (words : List Text) → Fails (CanFail (Some Resize)) (resize_asked words)
unfolding resize_asked resize_request
resize words =
    let P = CanFail (Some Resize) in
    after P _ _ (line P _ words tt) (λ rows. after P _ _ (word P _ rows tt) (λ image. after P _ _ (tested P _ _ tt) (λ alone.
    after P _ _ (a_size P _ tt) (λ size. no_fault P _))))

fix : (words : List Text) → Fails (CanFail (Some Fix)) (fix_asked words)
unfolding fix_asked fix_request
fix words =
    let P = CanFail (Some Fix) in
    after P _ _ (line P _ words tt) (λ rows. after P _ _ (word P _ rows tt) (λ image. after P _ _ (tested P _ _ tt) (λ fit. no_fault P _)))

make : (words : List Text) → Fails (CanFail (Some Make)) (make_asked words)
unfolding make_asked make_request
make words =
    let P = CanFail (Some Make) in
    after P _ _ (line P _ words tt) (λ rows. after P _ _ (word P _ rows tt) (λ file. after P _ _ (word P _ rows tt) (λ first.
    after P _ _ (word P _ rows tt) (λ second. after P _ _ (word P _ rows tt) (λ third.
    after P _ _ (number P _ tt) (λ seed. after P _ _ (number P _ tt) (λ clusters.
    after P _ _ (number P _ tt) (λ cluster. after P _ _ (tested P _ _ tt) (λ range. no_fault P _)))))))))

trial : (words : List Text) → Fails (CanFail (Some Trial)) (trial_asked words)
unfolding trial_asked trial_request
trial words =
    let P = CanFail (Some Trial) in
    after P _ _ (line P _ words tt) (λ rows. after P _ _ (word P _ rows tt) (λ first. after P _ _ (word P _ rows tt) (λ name.
    after P _ _ (number P _ tt) (λ seed. no_fault P _))))

of_tool : (tool : Option Tool) (words : List Text) → Fails (CanFail tool) (tool_asked tool words)
of_tool None words = fault (CanFail None) (Usage usage.Tool) tt
of_tool (Some Info) words = info words
of_tool (Some Ls) words = ls words
of_tool (Some Cat) words = cat words
of_tool (Some Cluster) words = cluster words
of_tool (Some Cp) words = cp words
of_tool (Some Clone) words = clone words
of_tool (Some Resize) words = resize words
of_tool (Some Fix) words = fix words
of_tool (Some Make) words = make words
of_tool (Some Trial) words = trial words

-- ---- an answer to words

read_as : {T : Type 0} (P : WordsFault → Type 0) (expected result : Result T WordsFault) → Reads expected result → Fails P expected → P NoMemory → IfErr result P
read_as P expected (Ok x) is kinds wanting = tt
read_as P expected (Err (Usage kind)) is kinds wanting = (subst (Fails P) (is tt) kinds).is
read_as P expected (Err NoMemory) is kinds wanting = wanting

-- of a tool
pub kinds : (tool : Tool) (named : Option Tool) (words : List Text) (result : Result Request WordsFault) → named ≡ Some tool
    → Reads (tool_asked (Some tool) words) result → IfErr result (CanFail named)
kinds tool named words result is reads =
    subst (λ t. IfErr result (CanFail t)) (sym is) (read_as (CanFail (Some tool)) (tool_asked (Some tool) words) result reads (of_tool (Some tool) words) tt)
