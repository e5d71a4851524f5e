-- What is in scope behind a statement whose names are new.
use Rattle.std.proofs.Common.{◌≡◌, refl, sym, ap, ◌∙◌, Bool, true, false, ◌&&◌, ◌||◌, not, if◌then◌else◌, List, [], ◌∷◌, ◌++◌, map, drop, Option, Some, None}
use Rattle.std.proofs.lemmas.List.Folds.{list_any-append}
use Rattle.std.specs.List.{list_any}
use Rattle.ess_semantics.specs.Values.{Text}
use Rattle.ess_semantics.specs.Order.{same_text}
use Rattle.ess_semantics.specs.Names.{Names, keys, is_among, all_distinct}
use Rattle.ess_semantics.specs.Trees.{Stm, given, given_enum, let_ex, let_dom, let_enum, let_unnamed, needs, find, such_that, minimise, maximise}
use Rattle.ess_semantics.specs.Types.{Ty, named_ty}
use Rattle.ess_semantics.specs.Typing.{type_of}
use Rattle.ess_semantics.specs.Lettings.{Lettings, put_stm}
use Rattle.ess_semantics.specs.Scopes.{Scope, names_in_scope, is_fixed}
use Rattle.ess_semantics.specs.Judgements.{declares, scope_after, depending_by, names_by, is_value_name, no_value_name, is_objective, Judgement, unknown_name, double_name, judgements}
use Rattle.ess_types_judging_laws.specs.Verdicts.{Findings, findings, declares_new, first_found}
use Rattle.ess_types.specs.Entering.{AreNew, AreStems, AreTyped, depending, names_of}
use Rattle.ess_types.specs.ValueNames.{StemsAdded}

-- ---- what a statement declares

-- Putting lettings in leaves the names.
pub declares-put : (w : Stm) (l : Lettings) (g : Names Ty) → declares (put_stm w l g) ≡ declares w
declares-put (given x d) l g = refl
declares-put (given_enum t) l g = refl
declares-put (let_ex x e) l g = refl
declares-put (let_dom x d) l g = refl
declares-put (let_enum t ns) l g = refl
declares-put (let_unnamed t e) l g = refl
declares-put (needs e) l g = refl
declares-put (find x d) l g = refl
declares-put (such_that e) l g = refl
declares-put (minimise e) l g = refl
declares-put (maximise e) l g = refl

-- What depends on finds is what is found not to be fixed.
pub depending-found : (t : Stm) (s : Scope) → depending t (findings t s).found.fixed ≡ depending_by t s
depending-found (given x d) s = refl
depending-found (given_enum t) s = refl
depending-found (let_ex x e) s = refl
depending-found (let_dom x d) s = refl
depending-found (let_enum t ns) s = refl
depending-found (let_unnamed t e) s = refl
depending-found (needs e) s = refl
depending-found (find x d) s = refl
depending-found (such_that e) s = refl
depending-found (minimise e) s = refl
depending-found (maximise e) s = refl

-- The declared names have the types that are found.
pub names-found : (t : Stm) (s : Scope) → names_of t (findings t s).ty ≡ names_by t s
names-found (given x d) s = refl
names-found (given_enum t) s = refl
names-found (let_ex x e) s = go (type_of e s.tys)
  where
    go : (o : Option Ty) → names_of (let_ex x e) o ≡ (elim o [ None ↦ [] | Some u ↦ (x, u) ∷ [] ])
    go None = refl
    go (Some u) = refl
names-found (let_dom x d) s = refl
names-found (let_enum t ns) s = refl
names-found (let_unnamed t e) s = refl
names-found (needs e) s = refl
names-found (find x d) s = refl
names-found (such_that e) s = refl
names-found (minimise e) s = refl
names-found (maximise e) s = refl

-- ---- new names

or-none : (b c : Bool) → b || c ≡ false → (b ≡ false) × (c ≡ false)
or-none false c h = (refl, h)
or-none true c h = cc

none-both : (b c : Bool) → b ≡ false → c ≡ false → b || c ≡ false
none-both b c p q = cc

among-append : (xs ys : List Text) (a : Text) → is_among (xs ++ ys) a ≡ is_among xs a || is_among ys a
among-append xs ys a = list_any-append (λ n. same_text n a) xs ys

any-either : (xs ys ns : List Text) → list_any (is_among (xs ++ ys)) ns ≡ false
    → (list_any (is_among xs) ns ≡ false) × (list_any (is_among ys) ns ≡ false)
any-either xs ys [] h = (refl, refl)
any-either xs ys (n ∷ ns) h =
    let p = or-none (is_among (xs ++ ys) n) (list_any (is_among (xs ++ ys)) ns) h in
    let q = or-none (is_among xs n) (is_among ys n) (sym (among-append xs ys n) ∙ p.0) in
    let r = any-either xs ys ns p.1 in
    (none-both (is_among xs n) (list_any (is_among xs) ns) q.0 r.0, none-both (is_among ys n) (list_any (is_among ys) ns) q.1 r.1)

new-left : (xs ys ns : List Text) → AreNew (xs ++ ys) ns → AreNew xs ns
new-left xs ys ns h = record { once = h.once; apart = (any-either xs ys ns h.apart).0 }

new-right : (xs ys ns : List Text) → AreNew (xs ++ ys) ns → AreNew ys ns
new-right xs ys ns h = record { once = h.once; apart = (any-either xs ys ns h.apart).1 }

module _ (s : Scope) (ns : List Text) (h : AreNew (names_in_scope s) ns) where
  -- New names have no type.
  pub new_typed : AreNew (keys s.tys) ns
  new_typed = new-left (keys s.tys) s.enums ns
      (new-left (keys s.tys ++ s.enums) s.unnamed ns (new-left (keys s.tys ++ s.enums ++ s.unnamed) (keys s.lets.doms) ns h))

  -- They are no types.
  pub new_enums : AreNew s.enums ns
  new_enums = new-right (keys s.tys) s.enums ns
      (new-left (keys s.tys ++ s.enums) s.unnamed ns (new-left (keys s.tys ++ s.enums ++ s.unnamed) (keys s.lets.doms) ns h))

  pub new_unnamed : AreNew s.unnamed ns
  new_unnamed = new-right (keys s.tys ++ s.enums) s.unnamed ns (new-left (keys s.tys ++ s.enums ++ s.unnamed) (keys s.lets.doms) ns h)

  -- They are no domains.
  pub new_doms : AreNew (keys s.lets.doms) ns
  new_doms = new-right (keys s.tys ++ s.enums ++ s.unnamed) (keys s.lets.doms) ns h

  any-under : (ks : List Text) → ((a : Text) → is_among (keys s.tys) a ≡ false → is_among ks a ≡ false) → (ms : List Text)
      → list_any (is_among (keys s.tys)) ms ≡ false → list_any (is_among ks) ms ≡ false
  any-under ks f [] p = refl
  any-under ks f (m ∷ ms) p =
      let q = or-none (is_among (keys s.tys) m) (list_any (is_among (keys s.tys)) ms) p in
      none-both (is_among ks m) (list_any (is_among ks) ms) (f m q.0) (any-under ks f ms q.1)

  -- They are no lettings of expressions.
  pub new_exs : AreTyped s → AreNew (keys s.lets.exs) ns
  new_exs t = record { once = h.once; apart = any-under (keys s.lets.exs) (λ a p. (t a p).0) ns new_typed.apart }

  -- They don't depend on finds.
  pub new_finds : AreTyped s → AreNew s.depends_on_finds ns
  new_finds t = record { once = h.once; apart = any-under s.depends_on_finds (λ a p. (t a p).1) ns new_typed.apart }

-- ---- the scope behind a statement

or-false : (b : Bool) → b ≡ b || false
or-false true = refl
or-false false = refl

in-typed : (n t e u d : Bool) → (((n || t) || e) || u) || d ≡ n || (((t || e) || u) || d)
in-typed true t e u d = refl
in-typed false t e u d = refl

in-enums : (n t e u d : Bool) → ((t || (n || e)) || u) || d ≡ n || (((t || e) || u) || d)
in-enums true true e u d = refl
in-enums true false e u d = refl
in-enums false t e u d = refl

in-unnamed : (n t e u d : Bool) → ((t || e) || (n || u)) || d ≡ n || (((t || e) || u) || d)
in-unnamed true true e u d = refl
in-unnamed true false true u d = refl
in-unnamed true false false u d = refl
in-unnamed false t e u d = refl

in-doms : (n t e u d : Bool) → ((t || e) || u) || (n || d) ≡ n || (((t || e) || u) || d)
in-doms true true e u d = refl
in-doms true false true u d = refl
in-doms true false false true d = refl
in-doms true false false false d = refl
in-doms false t e u d = refl

in-both : (m n t e u d : Bool) → (((n || t) || (m || e)) || u) || d ≡ (m || n) || (((t || e) || u) || d)
in-both true true t e u d = refl
in-both true false true e u d = refl
in-both true false false e u d = refl
in-both false n t e u d = in-typed n t e u d

keys-values : (g : Names Ty) (u : Ty) (ns : List Text) → keys (map (λ n. (n, u)) ns ++ g) ≡ ns ++ keys g
keys-values g u [] = refl
keys-values g u (n ∷ ns) = ap (λ l. n ∷ l) (keys-values g u ns)

module _ (p : Text → Bool) where
  any-scope : (xs ys zs ws : List Text)
      → list_any p (xs ++ ys ++ zs ++ ws) ≡ ((list_any p xs || list_any p ys) || list_any p zs) || list_any p ws
  any-scope xs ys zs ws =
      list_any-append p (xs ++ ys ++ zs) ws
      ∙ ap (λ b. b || list_any p ws) (list_any-append p (xs ++ ys) zs ∙ ap (λ b. b || list_any p zs) (list_any-append p xs ys))

  module _ (s : Scope) where
    abbrev tt_ : Bool
    tt_ = list_any p (keys s.tys)

    abbrev ee_ : Bool
    ee_ = list_any p s.enums

    abbrev uu_ : Bool
    uu_ = list_any p s.unnamed

    abbrev dd_ : Bool
    dd_ = list_any p (keys s.lets.doms)

    before : list_any p (names_in_scope s) ≡ ((tt_ || ee_) || uu_) || dd_
    before = any-scope (keys s.tys) s.enums s.unnamed (keys s.lets.doms)

    close : (b c : Bool) → b ≡ c || (((tt_ || ee_) || uu_) || dd_) → b ≡ c || list_any p (names_in_scope s)
    close b c h = h ∙ ap (λ x. c || x) (sym before)

    typed-name : (x : Text)
        → list_any p ((x ∷ keys s.tys) ++ s.enums ++ s.unnamed ++ keys s.lets.doms) ≡ (p x || false) || list_any p (names_in_scope s)
    typed-name x = ap (λ b. b || list_any p (names_in_scope s)) (or-false (p x))

    -- The names in scope are those from before and those that the statement declares.
    pub scope-after : (t : Stm) → list_any p (names_in_scope (scope_after t s)) ≡ list_any p (declares t) || list_any p (names_in_scope s)
    scope-after (given x d) = typed-name x
    scope-after (given_enum t) =
        any-scope (keys s.tys) (t ∷ s.enums) s.unnamed (keys s.lets.doms) ∙ in-enums (p t) tt_ ee_ uu_ dd_
        ∙ ap (λ b. b || (((tt_ || ee_) || uu_) || dd_)) (or-false (p t)) ∙ ap (λ x. (p t || false) || x) (sym before)
    scope-after (let_ex x e) = typed-name x
    scope-after (let_dom x d) =
        any-scope (keys s.tys) s.enums s.unnamed (x ∷ keys s.lets.doms) ∙ in-doms (p x) tt_ ee_ uu_ dd_
        ∙ ap (λ b. b || (((tt_ || ee_) || uu_) || dd_)) (or-false (p x)) ∙ ap (λ y. (p x || false) || y) (sym before)
    scope-after (let_enum t ns) =
        ap (λ l. list_any p (l ++ (t ∷ s.enums) ++ s.unnamed ++ keys s.lets.doms)) (keys-values s.tys (named_ty t) ns)
        ∙ any-scope (ns ++ keys s.tys) (t ∷ s.enums) s.unnamed (keys s.lets.doms)
        ∙ ap (λ b. ((b || (p t || ee_)) || uu_) || dd_) (list_any-append p ns (keys s.tys))
        ∙ in-both (p t) (list_any p ns) tt_ ee_ uu_ dd_ ∙ ap (λ y. (p t || list_any p ns) || y) (sym before)
    scope-after (let_unnamed t e) =
        any-scope (keys s.tys) s.enums (t ∷ s.unnamed) (keys s.lets.doms) ∙ in-unnamed (p t) tt_ ee_ uu_ dd_
        ∙ ap (λ b. b || (((tt_ || ee_) || uu_) || dd_)) (or-false (p t)) ∙ ap (λ x. (p t || false) || x) (sym before)
    scope-after (needs e) = refl
    scope-after (find x d) = typed-name x
    scope-after (such_that e) = refl
    scope-after (minimise e) = refl
    scope-after (maximise e) = refl

-- The stems of names in scope, with those of the names that a statement declares.
pub stems-after : (t : Stm) (s : Scope) (ns ms : List Text) → AreStems ns s → StemsAdded (declares t) ns ms → AreStems ms (scope_after t s)
stems-after t s ns ms h a u = a u ∙ ap (λ b. list_any (is_value_name u) (declares t) || b) (h u) ∙ sym (scope-after (is_value_name u) s t)

-- What is typed stays typed.
typed-more : (s : Scope) (x a : Text) → AreTyped s → is_among (x ∷ keys s.tys) a ≡ false
    → (is_among (keys s.lets.exs) a ≡ false) × (is_among s.depends_on_finds a ≡ false)
typed-more s x a h p = h a (or-none (same_text x a) (is_among (keys s.tys) a) p).1

also-none : (b c : Bool) → b ≡ false → c ≡ false → b || c ≡ false
also-none b c p q = cc

pub typed-after : (t : Stm) (s : Scope) → AreTyped s → AreTyped (scope_after t s)
typed-after (given x d) s h a p = typed-more s x a h p
typed-after (given_enum t) s h a p = h a p
typed-after (let_ex x e) s h a p =
    let q = or-none (same_text x a) (is_among (keys s.tys) a) p in
    let r = h a q.1 in
    (also-none (same_text x a) (is_among (keys s.lets.exs) a) q.0 r.0, go (is_fixed e s) q.0 r.1)
  where
    go : (b : Bool) → same_text x a ≡ false → is_among s.depends_on_finds a ≡ false
        → is_among ((if b then [] else x ∷ []) ++ s.depends_on_finds) a ≡ false
    go true p q = q
    go false p q = also-none (same_text x a) (is_among s.depends_on_finds a) p q
typed-after (let_dom x d) s h a p = h a p
typed-after (let_enum t ns) s h a p =
    h a (or-none (is_among ns a) (is_among (keys s.tys) a)
    (sym (among-append ns (keys s.tys) a) ∙ sym (ap (λ l. is_among l a) (keys-values s.tys (named_ty t) ns)) ∙ p)).1
typed-after (let_unnamed t e) s h a p = h a p
typed-after (needs e) s h a p = h a p
typed-after (find x d) s h a p =
    let q = or-none (same_text x a) (is_among (keys s.tys) a) p in
    let r = h a q.1 in
    (r.0, also-none (same_text x a) (is_among s.depends_on_finds a) q.0 r.1)
typed-after (such_that e) s h a p = h a p
typed-after (minimise e) s h a p = h a p
typed-after (maximise e) s h a p = h a p

-- ---- a statement that meets all judgements

and-left : (b c : Bool) → b && c ≡ true → b ≡ true
and-left true c h = refl
and-left false c h = cc

and-right : (b c : Bool) → b && c ≡ true → c ≡ true
and-right true c h = h
and-right false c h = cc

not-true : (b : Bool) → not b ≡ true → b ≡ false
not-true true h = cc
not-true false h = refl

declares-new : (w : Stm) (s : Scope) → declares_new w s ≡ true → AreNew (names_in_scope s) (declares w)
declares-new w s h =
    let no_value = and-left (all_distinct (declares w) && not (list_any (is_among (names_in_scope s)) (declares w)) && no_value_name w s)
    (not (is_objective w && s.objective)) h in
    let both = and-left (all_distinct (declares w) && not (list_any (is_among (names_in_scope s)) (declares w)))
    (no_value_name w s) no_value in
    record {
      once = and-left (all_distinct (declares w)) (not (list_any (is_among (names_in_scope s)) (declares w))) both;
      apart =
          not-true (list_any (is_among (names_in_scope s)) (declares w))
          (and-right (all_distinct (declares w)) (not (list_any (is_among (names_in_scope s)) (declares w))) both);
    }

-- It declares new names.
pub met-new : (w t : Stm) (f g : Findings) (s : Scope) → first_found judgements w t f g s ≡ None → declares t ≡ declares w
    → AreNew (names_in_scope s) (declares t)
met-new w t f g s h e =
    let new = declares-new w s
    (and-left (declares_new w s) f.found.new
    (go g.found.known (declares_new w s && f.found.new) (first_found (drop 2 judgements) w t f g s) h)) in
    record { once = ap all_distinct e ∙ new.once; apart = ap (list_any (is_among (names_in_scope s))) e ∙ new.apart }
  where
    go : (b c : Bool) (o : Option Judgement) → (if b then (if c then o else Some double_name) else Some unknown_name) ≡ None → c ≡ true
    go true true o h = refl
    go true false o h = cc
    go false c o h = cc
