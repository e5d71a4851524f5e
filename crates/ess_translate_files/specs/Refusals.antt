-- The refusals of the parts as refusals of a translation.
use Rattle.std.specs.Prelude.{Bool, true, false}
use Rattle.ess_translate_header.specs.declared.headers.HeadNo.{HeadNo}
use Rattle.ess_translate_header.specs.declared.headers.HeadNo.TheVariants as head
use Rattle.ess_eval.specs.declared.calls.EvalNo.{EvalNo}
use Rattle.ess_eval.specs.declared.calls.EvalNo.TheVariants as eval
use Rattle.ess_translate.specs.declared.refusal.TransNo.{TransNo}

-- The refusal of a header.
abbrev pub head_no : HeadNo → TransNo
head_no head.HeaderBad = TransNo.HeaderBad
head_no head.NoMemory = TransNo.NoMemory

-- Why evaluation stops; it stops at numbers outside 64 bits and for want of memory alone.
abbrev pub eval_no : EvalNo → TransNo
eval_no eval.Big = TransNo.Big
eval_no _ = TransNo.NoMemory

-- Whether a model's file is refused for its header, or for want of memory.
abbrev pub is_bad_or_memory : TransNo → Bool
is_bad_or_memory TransNo.HeaderBad = true
is_bad_or_memory TransNo.NoMemory = true
is_bad_or_memory _ = false
