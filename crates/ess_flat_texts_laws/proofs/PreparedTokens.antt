-- Statements that some text has, with lettings put in: names of givens and finds are tokens, and numbers of flat trees are such as tokens
-- have. A letting's numbers stand in the letting.
use Rattle.std.proofs.Common.{◌≡◌, refl, sym, ap, ◌∙◌, subst, Bool, true, false, if◌then◌else◌, List, [], ◌∷◌, Option, Some, None}
use Rattle.ess_semantics.specs.Values.{Text}
use Rattle.ess_semantics.specs.Order.{same_text}
use Rattle.ess_semantics.specs.Names.{Names, look}
use Rattle.ess_semantics.specs.Trees.{Op, unary, binary, word, Ex, Exs, number_ex, truth_ex, name_ex, node_ex, matrix_ex, comp_ex, cell_ex, seen_ex, no_exs, more_exs, Gens, no_gens, over, from, cond, Dom, bool_dom, int_dom, name_dom, Stm, given, given_enum, let_ex, let_dom, let_enum, let_unnamed, needs, find, such_that, minimise, maximise}
use Rattle.ess_semantics.specs.Types.{Ty, type_of_dom, bind_types}
use Rattle.ess_semantics.specs.Typing.{source_ty}
use Rattle.ess_semantics.specs.Contexts.{Each}
use Rattle.ess_semantics.specs.Lettings.{Lettings, no_lettings, lettings_after, put_name, put_dom_name, put_operands, put_ex, put_exs, put_gens, put_dom, put_stm, put_all, types_after}
use Rattle.ess_semantics.specs.Resolving.{resolve, resolve_dom}
use Rattle.ess_semantics.specs.Prepared.{resolve_stm, resolve_all, prepared}
use Rattle.ess_semantics.proofs.Tests.{and-left, and-right}
use Rattle.ess_grammar.specs.Readable.{is_name_token, ReadableEx, ReadableExs, ReadableDom, ReadableStm, ReadableStms}
use Rattle.ess_flat_models_laws.proofs.FlatValues.{AllNumbers, NumbersOfAll}
use Rattle.ess_flat_models_laws.proofs.SimpleTrees.{no, is_simple_op, is_simple, are_simple, is_simple_dom, DomNumbers, NumbersAre, simple-before, all-before, numbers-resolved, all-resolved}
use Rattle.ess_flat_texts_laws.proofs.SpelledTrees.{HasToken}

-- ---- lettings

-- The numbers of flat lettings are such as tokens have.
record LetTokens (l : Lettings) : Type 0 where
  pub exs : (a : Text) (e : Ex) → look l.exs a ≡ Some e → is_simple e ≡ true → AllNumbers HasToken e
  pub doms : (a : Text) (d : Dom) → look l.doms a ≡ Some d → is_simple_dom d ≡ true → DomNumbers HasToken d

operands-put : (op : Op) (es fs : Exs) (g : Names Ty) → is_simple_op op ≡ true → put_operands op es fs g ≡ fs
operands-put (unary o) es fs g h = refl
operands-put (binary o) es fs g h = refl
operands-put (word f) es fs g h = refl
operands-put op es fs g h = absurd (no h)

name-put : (a : Text) (o : Option Ex) → ((e : Ex) → o ≡ Some e → is_simple e ≡ true → AllNumbers HasToken e) →
    is_simple (put_name o a) ≡ true → AllNumbers HasToken (put_name o a)
name-put a None f h = tt
name-put a (Some e) f h = f e refl h

dom-name-put : (a : Text) (o : Option Dom) → ((d : Dom) → o ≡ Some d → is_simple_dom d ≡ true → DomNumbers HasToken d) →
    is_simple_dom (put_dom_name o a) ≡ true → DomNumbers HasToken (put_dom_name o a)
dom-name-put a None f h = tt
dom-name-put a (Some d) f h = f d refl h

gens-put : (gs : Gens) (l : Lettings) (g : Names Ty) (k : Gens → Names Ty → Ex) →
    ((hs : Gens) (h : Names Ty) → is_simple (k hs h) ≡ false) → is_simple (put_gens gs l g k) ≡ false
gens-put no_gens l g k f = f no_gens g
gens-put (over p d gs) l g k f =
    gens-put gs l (bind_types p (type_of_dom (put_dom d l g)) g) (λ hs h. k (over p (put_dom d l g) hs) h)
    (λ hs h. f (over p (put_dom d l g) hs) h)
gens-put (from p e gs) l g k f =
    gens-put gs l (bind_types p (source_ty (put_ex e l g) g) g) (λ hs h. k (from p (put_ex e l g) hs) h)
    (λ hs h. f (from p (put_ex e l g) hs) h)
gens-put (cond e gs) l g k f = gens-put gs l g (λ hs h. k (cond (put_ex e l g) hs) h) (λ hs h. f (cond (put_ex e l g) hs) h)

operands-back : (es fs : Exs) → es ≡ fs → NumbersOfAll HasToken fs → NumbersOfAll HasToken es
operands-back es fs q n = subst (NumbersOfAll HasToken) (sym q) n

mutual
  numbers-put : (e : Ex) (l : Lettings) (g : Names Ty) → LetTokens l → is_simple (put_ex e l g) ≡ true → ReadableEx e →
      AllNumbers HasToken (put_ex e l g)
  numbers-put (number_ex n) l g w h r = r
  numbers-put (truth_ex b) l g w h r = tt
  numbers-put (name_ex a) l g w h r = name-put a (look l.exs a) (w.exs a) h
  numbers-put (node_ex b op es) l g w h r =
      let u : Bool = are_simple (put_operands op es (put_exs es l g) g) in
      let q = operands-put op es (put_exs es l g) g (and-left (is_simple_op op) u h) in
      operands-back (put_operands op es (put_exs es l g) g) (put_exs es l g) q
      (all-put es l g w (ap are_simple (sym q) ∙ and-right (is_simple_op op) u h) r.2)
  numbers-put (matrix_ex es d) l g w h r = tt
  numbers-put (comp_ex e gs) l g w h r =
      absurd (no (sym (gens-put gs l g (λ hs h. comp_ex (put_ex e l h) hs) (λ hs h. refl)) ∙ h))
  numbers-put (cell_ex b n es) l g w h r = tt
  numbers-put (seen_ex r' d ns es) l g w h r = tt

  all-put : (es : Exs) (l : Lettings) (g : Names Ty) → LetTokens l → are_simple (put_exs es l g) ≡ true → ReadableExs es →
      NumbersOfAll HasToken (put_exs es l g)
  all-put no_exs l g w h r = tt
  all-put (more_exs e es) l g w h r = (
    numbers-put e l g w (and-left (is_simple (put_ex e l g)) (are_simple (put_exs es l g)) h) r.0,
    all-put es l g w (and-right (is_simple (put_ex e l g)) (are_simple (put_exs es l g)) h) r.1,
  )

dom-put : (d : Dom) (l : Lettings) (g : Names Ty) → LetTokens l → is_simple_dom (put_dom d l g) ≡ true → ReadableDom d →
    DomNumbers HasToken (put_dom d l g)
dom-put bool_dom l g w h r = tt
dom-put (int_dom rs es) l g w h r = all-put es l g w h r.1
dom-put (name_dom a) l g w h r = dom-name-put a (look l.doms a) (w.doms a) h
dom-put d l g w h r = absurd (no h)

dom-before : (d : Dom) (g : Names Ty) → is_simple_dom (resolve_dom d g) ≡ true → is_simple_dom d ≡ true
dom-before bool_dom g h = refl
dom-before (int_dom rs es) g h = all-before HasToken es g h
dom-before d g h = absurd (no h)

dom-resolved : (d : Dom) (g : Names Ty) → is_simple_dom (resolve_dom d g) ≡ true → DomNumbers HasToken d →
    DomNumbers HasToken (resolve_dom d g)
dom-resolved bool_dom g h m = tt
dom-resolved (int_dom rs es) g h m = all-resolved HasToken es g h m
dom-resolved d g h m = absurd (no h)

-- ---- statements

of-ex : (e : Ex) (l : Lettings) (g : Names Ty) → LetTokens l → ReadableEx e → is_simple (resolve (put_ex e l g) g) ≡ true →
    AllNumbers HasToken (resolve (put_ex e l g) g)
of-ex e l g w r h =
    numbers-resolved HasToken (put_ex e l g) g h (numbers-put e l g w (simple-before HasToken (put_ex e l g) g h) r)

of-dom : (d : Dom) (l : Lettings) (g : Names Ty) → LetTokens l → ReadableDom d → is_simple_dom (resolve_dom (put_dom d l g) g) ≡ true →
    DomNumbers HasToken (resolve_dom (put_dom d l g) g)
of-dom d l g w r h = dom-resolved (put_dom d l g) g h (dom-put d l g w (dom-before (put_dom d l g) g h) r)

of-statement : (s : Stm) (l : Lettings) (g : Names Ty) → LetTokens l → ReadableStm s → NumbersAre HasToken (resolve_stm (put_stm s l g) g)
of-statement (given x d) l g w r = of-dom d l g w r.1
of-statement (find x d) l g w r = of-dom d l g w r.1
of-statement (needs e) l g w r = of-ex e l g w r
of-statement (such_that e) l g w r = of-ex e l g w r
of-statement (minimise e) l g w r = of-ex e l g w r
of-statement (maximise e) l g w r = of-ex e l g w r
of-statement (given_enum t) l g w r = tt
of-statement (let_ex x e) l g w r = tt
of-statement (let_dom x d) l g w r = tt
of-statement (let_enum t ns) l g w r = tt
of-statement (let_unnamed t e) l g w r = tt

one-more : {A : Type 0} (P : A → Type 0) (x a : Text) (e f : A) (ks : Names A) → P e → (look ks a ≡ Some f → P f) →
    (if same_text x a then Some e else look ks a) ≡ Some f → P f
one-more {A} P x a e f ks p q h = go (same_text x a) h
  where
    same : (e f : A) → Some e ≡ Some f → e ≡ f
    same e f z = cc

    go : (b : Bool) → (if b then Some e else look ks a) ≡ Some f → P f
    go true z = subst P (same e f z) p
    go false z = q z

let-more : (s : Stm) (l : Lettings) (g : Names Ty) → LetTokens l → ReadableStm s → LetTokens (lettings_after (put_stm s l g) l)
let-more (let_ex x e) l g w r = record {
  exs = λ a f q. one-more (λ f. is_simple f ≡ true → AllNumbers HasToken f) x a (put_ex e l g) f l.exs (λ h. numbers-put e l g w h r.1)
      (w.exs a f) q;
  doms = w.doms;
}
let-more (let_dom x d) l g w r = record {
  exs = w.exs;
  doms = λ a f q. one-more (λ f. is_simple_dom f ≡ true → DomNumbers HasToken f) x a (put_dom d l g) f l.doms (λ h. dom-put d l g w h r.1)
      (w.doms a f) q;
}
let-more (given x d) l g w r = w
let-more (find x d) l g w r = w
let-more (needs e) l g w r = w
let-more (such_that e) l g w r = w
let-more (minimise e) l g w r = w
let-more (maximise e) l g w r = w
let-more (given_enum t) l g w r = w
let-more (let_enum t ns) l g w r = w
let-more (let_unnamed t e) l g w r = w

all-statements : (T : List Stm) (l : Lettings) (g : Names Ty) → LetTokens l → ReadableStms T →
    Each (resolve_all (put_all T l g) g) (NumbersAre HasToken)
all-statements [] l g w r = tt
all-statements (s ∷ T) l g w r =
    let t : Stm = put_stm s l g in
    (of-statement s l g w r.0, all-statements T (lettings_after t l) (types_after t g) (let-more s l g w r.0) r.1)

-- The numbers of flat statements are such as tokens have.
pub prepared-tokens : (S : List Stm) → ReadableStms S → Each (prepared S) (NumbersAre HasToken)
prepared-tokens S r =
    all-statements S no_lettings [] (record { exs = λ a e q. absurd (none q); doms = λ a d q. absurd (no-dom q) }) r
  where
    none : {e : Ex} → None ≡ Some e → ⊥
    none q = cc

    no-dom : {d : Dom} → None ≡ Some d → ⊥
    no-dom q = cc

-- ---- names

-- The name of a given or find is a token.
abbrev pub IsNamed : Stm → Type 0
IsNamed (given x d) = is_name_token x ≡ true
IsNamed (find x d) = is_name_token x ≡ true
IsNamed s = Unit {0}

named-statement : (s : Stm) (l : Lettings) (g : Names Ty) → ReadableStm s → IsNamed (resolve_stm (put_stm s l g) g)
named-statement (given x d) l g r = r.0
named-statement (find x d) l g r = r.0
named-statement (needs e) l g r = tt
named-statement (such_that e) l g r = tt
named-statement (minimise e) l g r = tt
named-statement (maximise e) l g r = tt
named-statement (given_enum t) l g r = tt
named-statement (let_ex x e) l g r = tt
named-statement (let_dom x d) l g r = tt
named-statement (let_enum t ns) l g r = tt
named-statement (let_unnamed t e) l g r = tt

named-from : (T : List Stm) (l : Lettings) (g : Names Ty) → ReadableStms T → Each (resolve_all (put_all T l g) g) IsNamed
named-from [] l g r = tt
named-from (s ∷ T) l g r =
    let t : Stm = put_stm s l g in (named-statement s l g r.0, named-from T (lettings_after t l) (types_after t g) r.1)

-- So it is of all.
pub prepared-named : (S : List Stm) → ReadableStms S → Each (prepared S) IsNamed
prepared-named S r = named-from S no_lettings [] r
