-- How a letting is printed from its parts.
use Rattle.std.proofs.Common.{◌≡◌, refl, sym, subst, List, [], ◌∷◌, ◌++◌, codes}
use Rattle.ess_semantics.specs.Values.{Text}
use Rattle.ess_semantics.specs.Trees as pure
use Rattle.ess_semantics.specs.Trees.{let_dom, let_enum, let_unnamed}
use Rattle.ess_grammar.specs.Words.{new_word, type_word, enum_word, domain_word, of_word, open_curly, close_curly}
use Rattle.ess_print_laws.specs.Pieces.{space, sign, named, reserved}
use Rattle.ess_print_laws.specs.Parts.{commas, name_printers}
use Rattle.ess_print_laws.specs.Expressions.{ex_pieces, dom_pieces}
use Rattle.ess_print_laws.specs.Statements.{stm_pieces, let_be}
use Rattle.ess_core.specs.TreeViews.{pure_ex, pure_dom}
use Rattle.ess_core.specs.StatementViews.{pure_stm}
use Rattle.ess_core.specs.declared.domains.Dom.{Dom}
use Rattle.ess_core.specs.declared.expressions.Ex.{Ex}
use Rattle.ess_core.specs.declared.statements.Stm.{Stm}
use Rattle.ess_core.specs.declared.statements.Stm.TheVariants.{LetDom, LetEnum, LetUnnamed}
use Rattle.ess_print.specs.Written.{Puts}
use Rattle.ess_print.proofs.Writing.{puts-pieces, puts-then, puts-as, puts-at}

pub let-domain-put : {s : Stm} {n : Text} {d d' : Dom} {t0 t1 t2 t3 : Text} → s ≡ LetDom n d → d' ≡ d → Puts t0 t1 (let_be n) → t2 ≡ t1 ++ codes "domain " →
    Puts t2 t3 (dom_pieces (pure_dom d')) →
    Puts t0 t3 (stm_pieces (pure_stm s))
let-domain-put {s} {n} {d} is e h f g =
    puts-at (λ x. stm_pieces (pure_stm x)) (sym is) (puts-as (stm_pieces (let_dom n (pure_dom d))) (λ us. refl) (puts-then h (puts-then (puts-pieces (reserved domain_word ∷ space ∷ []) f)
    (puts-at (λ x. dom_pieces (pure_dom x)) e g))))

pub let-enum-put : {s : Stm} {n : Text} {ns ns' : List Text} {t0 t1 t2 t3 t4 : Text} → s ≡ LetEnum n ns → Puts t0 t1 (let_be n) → t2 ≡ t1 ++ codes "new type enum {" → ns' ≡ ns →
    Puts t2 t3 (commas (name_printers ns')) → t4 ≡ t3 ++ codes "}" → Puts t0 t4 (stm_pieces (pure_stm s))
let-enum-put {s} {n} {ns} is h f e g c =
    puts-at (λ x. stm_pieces (pure_stm x)) (sym is) (puts-as (stm_pieces (let_enum n ns)) (λ us. refl)
    (puts-then h (puts-then (puts-pieces (reserved new_word ∷ space ∷ reserved type_word ∷ space ∷ reserved enum_word ∷ space ∷ sign open_curly ∷ []) f)
    (puts-then (puts-at (λ xs. commas (name_printers xs)) e g) (puts-pieces (sign close_curly ∷ []) c)))))

pub let-unnamed-put : {s : Stm} {n : Text} {e e' : Ex} {t0 t1 t2 t3 : Text} → s ≡ LetUnnamed n e → e' ≡ e → Puts t0 t1 (let_be n) → t2 ≡ t1 ++ codes "new type of size " →
    Puts t2 t3 (ex_pieces (pure_ex e')) →
    Puts t0 t3 (stm_pieces (pure_stm s))
let-unnamed-put {s} {n} {e} is k h f g =
    puts-at (λ x. stm_pieces (pure_stm x)) (sym is) (puts-as (stm_pieces (let_unnamed n (pure_ex e))) (λ us. refl)
    (puts-then h (puts-then (puts-pieces (reserved new_word ∷ space ∷ reserved type_word ∷ space ∷ reserved of_word ∷ space ∷ named (codes "size") ∷ space ∷ []) f)
    (puts-at (λ x. ex_pieces (pure_ex x)) k g))))
