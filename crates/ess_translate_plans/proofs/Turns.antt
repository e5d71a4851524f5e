-- Names that are added turn by turn, and the first that is taken.
use Rattle.std.proofs.Common.{◌≡◌, refl, sym, ap, ◌∙◌, subst, ℕ, ◌+◌, ◌<◌, ◌≤◌, Bool, true, false, ◌&&◌, ◌||◌, not, if◌then◌else◌, List, [], ◌∷◌, ◌++◌, map, drop, length, get_or, Option, Some, None, append_assoc}
use Rattle.std.proofs.lemmas.List.{at_drop_more, at_drop_all}
use Rattle.ess_semantics.specs.Lists.{append_all}
use Rattle.ess_semantics.specs.Values.{Text}
use Rattle.ess_semantics.specs.Order.{same_text}
use Rattle.ess_semantics.specs.Names.{is_among, keys, without}
use Rattle.ess_semantics.specs.Judgements.{declares}
use Rattle.ess_semantics.specs.Parameters.{all_declared}
use Rattle.ess_semantics.proofs.Texts.{same_text-equal}
use Rattle.ess_core.specs.StatementViews.{pure_stm}
use Rattle.ess_core.specs.declared.statements.Stm.{Stm}
use Rattle.ess_core.specs.declared.tables.CellDecl.{CellDecl}
use Rattle.ess_types_scopes.specs.declared.added.Added.{Added}
use Rattle.ess_types_scopes.specs.declared.added.Added.TheVariants.{New, Standing}
use Rattle.ess_types_scopes.specs.Sets.{name_added, with_name}
use Rattle.ess_translate_plans_laws.specs.Requests.{SameNames, declared_beside, first_among}
use Rattle.ess_translate_plans_laws.proofs.FreeBySets.{before-alike, changed-places, among-without}
use Rattle.conjure_laws.proofs.FreeNames.{among-append}
use Rattle.ess_translate_plans.specs.declared.plans.TableName.{TableName}
use Rattle.ess_translate_plans.specs.Views.{pure_table_name, decl_text}

-- ---- whether a name is taken

-- A name is one of two lists where it is one of the first, and else where it is one of the second.
pub among_both : (X T : List Text) (a : Text) → is_among (X ++ T) a ≡ is_among X a || is_among T a
among_both = among-append

pub beside_all : (all : Bool) (x : Text) (D : List Text) (a : Text) → all ≡ true → is_among D a ≡ is_among (declared_beside all x D) a
beside_all all x D a e = ap (λ b. is_among (declared_beside b x D) a) (sym e)

pub beside_own : (all : Bool) (x : Text) (D : List Text) (a : Text) → all ≡ false → is_among (without x D) a ≡ is_among (declared_beside all x D) a
beside_own all x D a e = ap (λ b. is_among (declared_beside b x D) a) (sym e)

pub without_own : (x : Text) (D : List Text) (a : Text) → same_text x a ≡ true → is_among (without x D) a ≡ false
without_own x D a e = among-without x D a ∙ ap (λ b. not b && is_among D a) e

pub without_other : (x : Text) (D : List Text) (a : Text) → same_text x a ≡ false → is_among (without x D) a ≡ is_among D a
without_other x D a e = among-without x D a ∙ ap (λ b. not b && is_among D a) e

-- ---- the first that is taken

abbrev pub first_of : List Text → List CellDecl → Option Text
first_of T ds = first_among T (map decl_text ds)

taken-first : (T : List Text) (ds : List CellDecl) (i : ℕ) (d : CellDecl) → i < length ds → d ≡ get_or ds i d →
    first_of T (drop i ds) ≡ (if is_among T d.name then Some d.name else first_of T (drop (i + 1) ds))
taken-first T ds i d h is =
    at_drop_more (first_of T) ds i d h ∙ ap (λ e. if is_among T e.name then Some e.name else first_of T (drop (i + 1) ds)) (sym is)

pub taken_here : (T : List Text) (ds : List CellDecl) (i : ℕ) (d : CellDecl) → i < length ds → d ≡ get_or ds i d →
    is_among T d.name ≡ true →
    first_of T (drop i ds) ≡ Some d.name
taken_here T ds i d h is e = taken-first T ds i d h is ∙ ap (λ b. if b then Some d.name else first_of T (drop (i + 1) ds)) e

pub taken_later : (T : List Text) (ds : List CellDecl) (i : ℕ) (d : CellDecl) → i < length ds → d ≡ get_or ds i d →
    is_among T d.name ≡ false →
    first_of T (drop i ds) ≡ first_of T (drop (i + 1) ds)
taken_later T ds i d h is e = taken-first T ds i d h is ∙ ap (λ b. if b then Some d.name else first_of T (drop (i + 1) ds)) e

pub taken_nowhere : (T : List Text) (ds : List CellDecl) (i : ℕ) → length ds ≤ i → first_of T (drop i ds) ≡ None
taken_nowhere T ds i h = at_drop_all (first_of T) ds i h

-- ---- names that are added

-- A set with one more name.
pub one_more : (S : List Text) (a : Text) → SameNames (with_name (name_added S a) S a) (a ∷ S)
one_more S a = go (is_among S a) refl
  where
    go : (b : Bool) → is_among S a ≡ b → SameNames (with_name (if b then Standing else New) S a) (a ∷ S)
    go true e = λ c. here c (same_text a c) refl
      where
        here : (c : Text) (b : Bool) → same_text a c ≡ b → is_among S c ≡ b || is_among S c
        here c true q = ap (is_among S) (sym (same_text-equal a c q)) ∙ e
        here c false q = refl
    go false e = λ c. refl

-- What is left and what is there are together what there was and all.
abbrev pub Together : List Text → List Text → List Text → List Text → Type 0
Together left now all before = SameNames (left ++ now) (all ++ before)

together-more : (a : Text) (left now more all before : List Text) → Together (a ∷ left) now all before → SameNames more (a ∷ now) →
    Together left more all before
together-more a left now more all before h k = λ c.
    before-alike left more (a ∷ now) k c ∙ changed-places left (a ∷ []) now c ∙ h c

abbrev pub table_texts : List TableName → List Text
table_texts ns = keys (map pure_table_name ns)

-- Nothing is added yet.
pub names_none : (ns : List TableName) (before : List Text) → Together (table_texts ns) before (table_texts ns) before
names_none ns before = λ c. refl

-- One more is.
pub names_more : (ns : List TableName) (i : ℕ) (n : TableName) (now more before : List Text) (r : Added) → i < length ns →
    n ≡ get_or ns i n →
    Together (table_texts (drop i ns)) now (table_texts ns) before → r ≡ name_added now n.name → more ≡ with_name r now n.name →
    Together (table_texts (drop (i + 1) ns)) more (table_texts ns) before
names_more ns i n now more before r h is t e f =
    together-more n.name (table_texts (drop (i + 1) ns)) now more (table_texts ns) before
    (subst (λ l. Together l now (table_texts ns) before) (at_drop_more table_texts ns i n h
    ∙ ap (λ m. m.name ∷ table_texts (drop (i + 1) ns)) (sym is)) t)
    (subst (λ l. SameNames l (n.name ∷ now)) (sym (f ∙ ap (λ q. with_name q now n.name) e)) (one_more now n.name))

-- All are.
pub names_all : (ns : List TableName) (i : ℕ) (now before : List Text) → length ns ≤ i →
    Together (table_texts (drop i ns)) now (table_texts ns) before →
    SameNames now (table_texts ns ++ before)
names_all ns i now before h t = subst (λ l. Together l now (table_texts ns) before) (at_drop_all table_texts ns i h) t

-- The same of names alone, behind a first one.
pub texts_none : (a : Text) (ns : List Text) (before now : List Text) (r : Added) → r ≡ name_added before a → now ≡ with_name r before a →
    Together ns now (a ∷ ns) before
texts_none a ns before now r e f =
    together-more a ns before now (a ∷ ns) before (λ c. refl) (subst (λ l. SameNames l (a ∷ before)) (sym (f
    ∙ ap (λ q. with_name q before a) e)) (one_more before a))

abbrev itself : List Text → List Text
itself ns = ns

pub texts_more : (a : Text) (ns : List Text) (i : ℕ) (n : Text) (now more before : List Text) (r : Added) → i < length ns →
    n ≡ get_or ns i n →
    Together (drop i ns) now (a ∷ ns) before → r ≡ name_added now n → more ≡ with_name r now n →
    Together (drop (i + 1) ns) more (a ∷ ns) before
texts_more a ns i n now more before r h is t e f =
    together-more n (drop (i + 1) ns) now more (a ∷ ns) before
    (subst (λ l. Together l now (a ∷ ns) before) (at_drop_more itself ns i n h ∙ ap (λ m. m ∷ drop (i + 1) ns) (sym is)) t)
    (subst (λ l. SameNames l (n ∷ now)) (sym (f ∙ ap (λ q. with_name q now n) e)) (one_more now n))

pub texts_all : (a : Text) (ns : List Text) (i : ℕ) (now before : List Text) → length ns ≤ i → Together (drop i ns) now (a ∷ ns) before →
    SameNames now ((a ∷ ns) ++ before)
texts_all a ns i now before h t = subst (λ l. Together l now (a ∷ ns) before) (at_drop_all itself ns i h) t

-- ---- what statements declare

abbrev pub declared_by : List Stm → List Text
declared_by ss = all_declared (map pure_stm ss)

pub one_declared : (S : List Text) → SameNames S S
one_declared S = λ c. refl

pub declared_none : (ss : List Stm) → Together (declared_by ss) [] (declared_by ss) []
declared_none ss = λ c. refl

pub declared_more : (ss : List Stm) (i : ℕ) (s : Stm) (now more : List Text) → i < length ss → s ≡ get_or ss i s →
    Together (declared_by (drop i ss)) now (declared_by ss) [] → SameNames more (declares (pure_stm s) ++ now) →
    Together (declared_by (drop (i + 1) ss)) more (declared_by ss) []
declared_more ss i s now more h is t k =
    let D : List Text = declares (pure_stm s) in
    let R : List Text = declared_by (drop (i + 1) ss) in
    let e = at_drop_more declared_by ss i s h ∙ ap (λ m. declares (pure_stm m) ++ R) (sym is) in
    λ c. before-alike R more (D ++ now) k c ∙ changed-places R D now c ∙ ap (λ l. is_among l c) (sym (append_assoc D R now))
    ∙ subst (λ l. Together l now (declared_by ss) []) e t c

pub declared_all : (ss : List Stm) (i : ℕ) (now : List Text) → length ss ≤ i → Together (declared_by (drop i ss)) now (declared_by ss) [] →
    SameNames now (declared_by ss)
declared_all ss i now h t = λ c.
    subst (λ l. Together l now (declared_by ss) []) (at_drop_all declared_by ss i h) t c
    ∙ ap (λ l. is_among l c) (append-none (declared_by ss))
  where
    append-none : (l : List Text) → l ++ [] ≡ l
    append-none [] = refl
    append-none (x ∷ xs) = ap (λ l. x ∷ l) (append-none xs)
