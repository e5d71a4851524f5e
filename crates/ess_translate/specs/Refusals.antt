-- The refusals of the parts as refusals of a translation.
use Rattle.ess_parse.specs.declared.refusal.ReadNo.{ReadNo}
use Rattle.ess_types.specs.declared.refusal.TypeNo.{TypeNo}
use Rattle.ess_types.specs.declared.refusal.TypeNo.TheVariants as type
use Rattle.ess_eval.specs.declared.calls.EvalNo.{EvalNo}
use Rattle.ess_eval.specs.declared.calls.EvalNo.TheVariants as eval
use Rattle.ess_translate.specs.declared.refusal.Which.{Which}
use Rattle.ess_translate.specs.declared.refusal.TransNo.{TransNo}
use Rattle.ess_translate.specs.declared.refusal.WalkNo.{WalkNo}

-- The refusal of the text of a file.
abbrev pub read_no : Which → ReadNo → TransNo
read_no file ReadNo.NoMemory = TransNo.NoMemory
read_no file why = TransNo.Read file why

-- The refusal of a specification's types.
abbrev pub typing_no : TypeNo → TransNo
typing_no type.NoMemory = TransNo.NoMemory
typing_no why = TransNo.Typing why

-- Why evaluation stops a walk over statements; it stops at numbers outside 64 bits and for want of memory alone.
abbrev pub walk_no : EvalNo → WalkNo
walk_no eval.Big = WalkNo.Big
walk_no _ = WalkNo.NoMemory

-- The refusal where a walk stops.
abbrev pub stop_no : WalkNo → TransNo
stop_no WalkNo.Big = TransNo.Big
stop_no WalkNo.NoMemory = TransNo.NoMemory
