-- What is printed as a pattern, and what begins as attributes do.
use Rattle.std.proofs.Common.{◌≡◌, refl, sym, ap, ◌∙◌, ℕ, zero, suc, ◌+◌, ◌<◌, ◌≤◌, Bool, true, false, ◌&&◌, ◌||◌, List, [], ◌∷◌, map, length, drop, get_or, Option, Some, None, arith, if◌then◌else◌}
use Rattle.std.proofs.lemmas.List.{at_drop_more}
use Rattle.std.proofs.Math.ListN.{drop_of_length-le}
use Rattle.std.specs.Prelude.{◌↔◌, IsTrue, slice_get}
use Rattle.std.specs.Option.{is_some}
use Rattle.std.specs.List.{list_any}
use Rattle.std.specs.Str.{bytes_eq}
use lib.Dec.{leb}
use Rattle.std.proofs.lemmas.Bool.{le-leb}
use Rattle.ess_semantics.specs.Values.{Text}
use Rattle.ess_semantics.specs.declared.words.Key.{Key}
use Rattle.ess_semantics.specs.Trees as pure
use Rattle.ess_semantics.specs.Trees.{Doms, no_doms, more_doms, bool_dom, int_dom, name_dom, tuple_dom, record_dom, matrix_dom, set_dom, mset_dom, function_dom, relation_dom, partition_dom}
use Rattle.ess_semantics.specs.Names.{look_by}
use Rattle.ess_grammar.specs.Words.{keys}
use Rattle.ess_grammar.specs.Patterns.{are_several}
use Rattle.ess_print_laws.specs.Brackets.{are_none, is_written_as_pattern, are_written_as_patterns, begins_as_attributes}
use Rattle.ess_core.specs.TreeViews.{pure_ex, pure_exs, pure_dom, pure_doms}
use Rattle.ess_core.specs.declared.domains.Dom.{Dom}
use Rattle.ess_core.specs.declared.expressions.Ex.{Ex}
use Rattle.ess_print.specs.Written.{key_names, names_attribute}

-- ---- patterns

pub none-where-empty : (b : Bool) (es : List Ex) → (IsTrue b ↔ (es ≡ [])) → b ≡ are_none (pure_exs es)
none-where-empty true [] h = refl
none-where-empty true (e ∷ es) h = let no : e ∷ es ≡ [] = h.0 refl in cc
none-where-empty false [] h = let no : IsTrue false = h.1 refl in cc
none-where-empty false (e ∷ es) h = refl

and-false : (b : Bool) → false ≡ b && false
and-false true = refl
and-false false = refl

and-true : (b : Bool) → b ≡ b && true
and-true true = refl
and-true false = refl

patterns-at : (es : List Ex) (i : ℕ) (e : Ex) → i < length es → e ≡ get_or es i e →
    are_written_as_patterns (pure_exs (drop i es)) ≡ (is_written_as_pattern (pure_ex e) && are_written_as_patterns (pure_exs (drop (i + 1) es)))
patterns-at es i e lt is =
    at_drop_more (λ xs. are_written_as_patterns (pure_exs xs)) es i e lt
    ∙ ap (λ x. is_written_as_pattern (pure_ex x) && are_written_as_patterns (pure_exs (drop (i + 1) es))) (sym is)

pub pattern-more : (es : List Ex) (i : ℕ) (e : Ex) → i < length es → e ≡ get_or es i e → are_written_as_patterns (pure_exs es) ≡ are_written_as_patterns (pure_exs (drop i es)) →
    true ≡ is_written_as_pattern (pure_ex e) → are_written_as_patterns (pure_exs es) ≡ are_written_as_patterns (pure_exs (drop (i + 1) es))
pattern-more es i e lt is w h = w ∙ patterns-at es i e lt is ∙ ap (λ b. b && are_written_as_patterns (pure_exs (drop (i + 1) es))) (sym h)

pub pattern-stops : (es : List Ex) (i : ℕ) (e : Ex) → i < length es → e ≡ get_or es i e → are_written_as_patterns (pure_exs es) ≡ are_written_as_patterns (pure_exs (drop i es)) →
    false ≡ is_written_as_pattern (pure_ex e) → false ≡ (are_several (pure_exs es) && are_written_as_patterns (pure_exs es))
pattern-stops es i e lt is w h =
    and-false (are_several (pure_exs es))
    ∙ ap (λ b. are_several (pure_exs es) && b) (sym (w ∙ patterns-at es i e lt is ∙ ap (λ b. b && are_written_as_patterns (pure_exs (drop (i + 1) es))) (sym h)))

several : (es : List Ex) → leb 2 (length es) ≡ are_several (pure_exs es)
several [] = refl
several (e ∷ []) = refl
several (d ∷ e ∷ es) = le-leb 2 (length (d ∷ e ∷ es)) (omega arith)

pub pattern-end : (es : List Ex) (i : ℕ) → length es ≤ i → are_written_as_patterns (pure_exs es) ≡ are_written_as_patterns (pure_exs (drop i es)) →
    leb 2 (length es) ≡ (are_several (pure_exs es) && are_written_as_patterns (pure_exs es))
pattern-end es i ge w =
    several es ∙ and-true (are_several (pure_exs es))
    ∙ ap (λ b. are_several (pure_exs es) && b) (sym (w ∙ ap (λ xs. are_written_as_patterns (pure_exs xs)) (drop_of_length-le es ge)))

-- ---- attribute words

found-or-later : (b : Bool) (k : Key) (o : Option Key) → (b || is_some o) ≡ is_some (if b then Some k else o)
found-or-later true k o = refl
found-or-later false k o = refl

named-key : (es : List (Text × Key)) (a : Text) → list_any (λ w. bytes_eq w a) (map (λ e. e.0) es) ≡ is_some (look_by bytes_eq es a)
named-key [] a = refl
named-key (e ∷ es) a = ap (λ b. bytes_eq e.0 a || b) (named-key es a) ∙ found-or-later (bytes_eq e.0 a) e.1 (look_by bytes_eq es a)

pub attribute-first : (d e : pure.Dom) (ds : Doms) → names_attribute d ≡ begins_as_attributes (tuple_dom (more_doms d (more_doms e ds)))
attribute-first (name_dom a) e ds = named-key keys a
attribute-first bool_dom e ds = refl
attribute-first (int_dom rs es) e ds = refl
attribute-first (tuple_dom cs) e ds = refl
attribute-first (record_dom ns cs) e ds = refl
attribute-first (matrix_dom cs c) e ds = refl
attribute-first (set_dom ms es c) e ds = refl
attribute-first (mset_dom ms es c) e ds = refl
attribute-first (function_dom ms es c b) e ds = refl
attribute-first (relation_dom ms es cs) e ds = refl
attribute-first (partition_dom ms es c) e ds = refl

pub tuple-begins : (ds : List Dom) (d : Dom) (b : Bool) → 2 ≤ length ds → Some d ≡ slice_get ds 0 → b ≡ names_attribute (pure_dom d) → b ≡ begins_as_attributes (tuple_dom (pure_doms ds))
tuple-begins [] d b h e k = absurd (omega arith)
tuple-begins (x ∷ []) d b h e k = absurd (omega arith)
tuple-begins (x ∷ y ∷ ds) d b h e k =
    let same : d ≡ x = cc in
    k ∙ ap (λ z. names_attribute (pure_dom z)) same ∙ attribute-first (pure_dom x) (pure_dom y) (pure_doms ds)

one-begins : (d : pure.Dom) → false ≡ begins_as_attributes (tuple_dom (more_doms d no_doms))
one-begins (name_dom a) = refl
one-begins bool_dom = refl
one-begins (int_dom rs es) = refl
one-begins (tuple_dom cs) = refl
one-begins (record_dom ns cs) = refl
one-begins (matrix_dom cs c) = refl
one-begins (set_dom ms es c) = refl
one-begins (mset_dom ms es c) = refl
one-begins (function_dom ms es c b) = refl
one-begins (relation_dom ms es cs) = refl
one-begins (partition_dom ms es c) = refl

pub short-begins : (ds : List Dom) → length ds < 2 → false ≡ begins_as_attributes (tuple_dom (pure_doms ds))
short-begins [] h = refl
short-begins (x ∷ []) h = one-begins (pure_dom x)
short-begins (x ∷ y ∷ ds) h = absurd (omega arith)

pub none-begins : (ds : List Dom) → None ≡ slice_get ds 0 → false ≡ begins_as_attributes (tuple_dom (pure_doms ds))
none-begins [] h = refl
none-begins (x ∷ ds) h = cc
