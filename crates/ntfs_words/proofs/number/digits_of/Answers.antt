use Rattle.std.proofs.Common.{arith, ap, sym, ◌∙◌, ◌≢◌, get_or}
use Rattle.std.proofs.lemmas.Bool.{eqb-true}
use Rattle.std.specs.Result.{result_ok}
use Rattle.ntfs_words.proofs.NumberLemmas.{digits_read, no_digits, no_sign, too_many_digits}
use Rattle.ntfs_words.proofs.number.digits_of.Goals as goal

pub returns-in-Ok : goal.returns-in-Ok
returns-in-Ok c = let unsigned : get_or c.args.text.now 0 0 ≢ 43 = rw c.as_bytes.ensures.value at c.if-as_bytes-eq43.false in sym (ap result_ok c.in-Ok.is) ∙ digits_read c.args.radix c.args.most c.args.text.now c.from_str_radix.result c.from_str_radix.ensures.value unsigned (omega arith)

pub returns-in-Err : goal.returns-in-Err
returns-in-Err c = let unsigned : get_or c.args.text.now 0 0 ≢ 43 = rw c.as_bytes.ensures.value at c.if-as_bytes-eq43.false in sym (ap result_ok c.in-Err.is) ∙ digits_read c.args.radix c.args.most c.args.text.now c.from_str_radix.result c.from_str_radix.ensures.value unsigned (omega arith)

pub returns-then-is_empty : goal.returns-then-is_empty
returns-then-is_empty c = no_digits c.args.radix c.args.most c.args.text.now (eqb-true _ _ (sym c.is_empty.ensures ∙ c.if-is_empty.true))

pub returns-then-text-most : goal.returns-then-text-most
returns-then-text-most c = too_many_digits c.args.radix c.args.most c.args.text.now (omega arith)

pub returns-then-as_bytes-eq43 : goal.returns-then-as_bytes-eq43
returns-then-as_bytes-eq43 c = no_sign c.args.radix c.args.most c.args.text.now c.requires.greatest (sym (ap (λ bytes. get_or bytes 0 0) c.as_bytes.ensures.value) ∙ c.if-as_bytes-eq43.true)
