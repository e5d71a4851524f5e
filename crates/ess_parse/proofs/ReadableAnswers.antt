-- The answers of readers are readable trees.
use Rattle.std.proofs.Common.{◌≡◌, List, None, Ok, Err}
use Rattle.std.specs.declared.result.Result.{Result}
use Rattle.ess_semantics.specs.Values.{Text}
use Rattle.ess_semantics.specs.Trees.{Dom, Stm}
use Rattle.ess_grammar.specs.Tokens.{lexed, first_outside}
use Rattle.ess_grammar.specs.Load.{too_deep}
use Rattle.ess_grammar.specs.Statements.{IsDomain, IsSpecification, IsLettingsFile}
use Rattle.ess_grammar.specs.Readable.{ReadableDom, ReadableStms, ReadableLettings}
use Rattle.ess_grammar.proofs.ReadableTrees.{domain-reads}
use Rattle.ess_grammar.proofs.ProperTokens.{tokens-proper, specification-text-readable, lettings-text-readable}
use Rattle.ess_lex.specs.Lexing.{refusal}
use Rattle.ess_parse.specs.declared.refusal.ReadNo.{ReadNo}
use Rattle.ess_parse.specs.Refusals.{refused_first}
use Rattle.ess_parse.specs.Readers.{IsRefusedFirst, IsDerived, IsReadable}
use Rattle.ess_parse.proofs.FirstRefusals.{none-first}

inside : (text : Text) → refused_first text ≡ None → first_outside (lexed text) ≡ None
inside text h = (none-first (refusal (lexed text)) (first_outside (lexed text)) (too_deep (lexed text)) h).1

pub domains-readable : {T : Type 0} (view : T → Dom) (text : Text) (r : Result T ReadNo) → IsRefusedFirst text r → IsDerived IsDomain view text r → IsReadable ReadableDom view r
domains-readable view text (Ok t) h d = (domain-reads d.2 (tokens-proper text d.0 d.1 (inside text h))).0
domains-readable view text (Err why) h d = tt

pub specifications-readable : {T : Type 0} (view : T → List Stm) (text : Text) (r : Result T ReadNo) → IsRefusedFirst text r → IsDerived IsSpecification view text r → IsReadable ReadableStms view r
specifications-readable view text (Ok t) h d = specification-text-readable text (view t) d (inside text h)
specifications-readable view text (Err why) h d = tt

pub lettings-readable : {T : Type 0} (view : T → List Stm) (text : Text) (r : Result T ReadNo) → IsRefusedFirst text r → IsDerived IsLettingsFile view text r → IsReadable ReadableLettings view r
lettings-readable view text (Ok t) h d = lettings-text-readable text (view t) d (inside text h)
lettings-readable view text (Err why) h d = tt
