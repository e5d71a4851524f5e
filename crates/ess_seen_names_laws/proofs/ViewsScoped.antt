-- What a view of a nested set offers is in scope where the view is, behind a name that is new.
use Rattle.std.proofs.Common.{◌≡◌, Bool, true, not, ℤ}
use Rattle.std.specs.Prelude.{IsTrue}
use Rattle.ess_semantics.specs.Values.{Text}
use Rattle.ess_semantics.specs.Trees.{name_pat, Ex, Exs, number_ex, name_ex, no_exs, more_exs, Gens, Dom, set_dom}
use Rattle.ess_semantics.specs.Substitution.{NamesAreExs, NamesAreDom}
use Rattle.ess_semantics.specs.Scoped.{is_bound, IsPlainIndex, Scoped, ScopedExs, ScopedGens, ScopedDom}
use Rattle.ess_repr_declare_laws.specs.SizeTerms.{slots_ex}
use Rattle.ess_rules_laws.specs.SpliceRules.{append_gens}
use Rattle.ess_rules_laws.specs.SetListings.{put_last}
use Rattle.ess_rules_laws.specs.SlotListings.{slots_dom}
use Rattle.ess_rules_laws.specs.FunctionViews.{append_exs}
use Rattle.ess_rules_laws.specs.Listings.{Alternative}
use Rattle.ess_refine_laws.specs.ScopesStay.{Scope}
use Rattle.ess_seen_names_laws.specs.Shapes.{Numerals, no_numeral, numeral, Written, of_truths, of_numbers, of_sets, Steps, no_step, to_a_name, Laid, that_occur, but_the_dummy, in_all_slots, up_to_the_marker, where_flagged}
use Rattle.ess_seen_names_laws.specs.Laws.{none, Within}
use Rattle.ess_seen_names_laws.proofs.SizeTerms.{Term, one, two, slots-fine, dummy-fine}
use Rattle.ess_seen_names_laws.proofs.PutScoped.{left-true, bound}
use Rattle.ess_seen_names_laws.proofs.NewNames.{behind_domain, within-domain}

-- ---- terms that use no names

-- A term of numerals is in scope anywhere, and binds nothing.
pub term-scoped : {q : ℤ → Bool} {e : Ex} → Term q e → (s o : Text → Bool) → Scoped none s o e
term-scoped (one h) s o = tt
term-scoped (two h k) s o = (term-scoped h s o, (term-scoped k s o, tt))

slots-scoped : (n : Ex) {q : ℤ → Bool} → Term q n → (s o : Text → Bool) → ScopedDom none s o (slots_dom n)
slots-scoped n h s o = (tt, (term-scoped h s o, tt))

numerals-names : {es : Exs} → Numerals es → (u b : Text → Bool) → NamesAreExs u b es
numerals-names no_numeral u b = tt
numerals-names (numeral s) u b = (tt, numerals-names s u b)

-- So does a nested domain.
written-names : {d : Dom} → Written d → (u b : Text → Bool) → NamesAreDom u b d
written-names of_truths u b = tt
written-names of_numbers u b = (tt, (tt, tt))
written-names (of_sets s w) u b = (numerals-names s u b, written-names w u b)

numerals-scoped : {es : Exs} → Numerals es → (s o : Text → Bool) → ScopedExs none s o es
numerals-scoped no_numeral s o = tt
numerals-scoped (numeral w) s o = (tt, numerals-scoped w s o)

written-scoped : {d : Dom} → Written d → (s o : Text → Bool) → ScopedDom none s o d
written-scoped of_truths s o = tt
written-scoped of_numbers s o = (tt, (tt, tt))
written-scoped (of_sets w v) s o = (numerals-scoped w s o, written-scoped v s o)

-- ---- indices of views

module _ (s : Scope) (within : Within s) where
  -- They are in scope,
  pub steps-scoped : {es : Exs} → Steps es → IsPlainIndex s.over_domains es → ScopedExs none s.all s.over_domains es
  steps-scoped no_step h = tt
  steps-scoped (to_a_name {a = a} i) h = (within a h.0, steps-scoped i h.1)

  -- also with others behind them,
  pub append-scoped : {es : Exs} → Steps es → IsPlainIndex s.over_domains es → (fs : Exs) → ScopedExs none s.all s.over_domains fs →
      ScopedExs none s.all s.over_domains (append_exs es fs)
  append-scoped no_step h fs k = k
  append-scoped (to_a_name {a = a} i) h fs k = (within a h.0, append-scoped i h.1 fs k)

  -- and with a name over a domain behind them.
  last-scoped : (x : Text) → s.all x ≡ true → {es : Exs} → Steps es → IsPlainIndex s.over_domains es →
      ScopedExs none s.all s.over_domains (put_last es (name_ex x))
  last-scoped x n no_step h = (n, tt)
  last-scoped x n (to_a_name {a = a} i) h = (within a h.0, last-scoped x n i h.1)

last-plain : (o : Text → Bool) (x : Text) → o x ≡ true → {es : Exs} → Steps es → IsPlainIndex o es →
    IsPlainIndex o (put_last es (name_ex x))
last-plain o x n no_step h = (n, tt)
last-plain o x n (to_a_name i) h = (h.0, last-plain o x n i h.1)

-- With more names over domains.
plain-more : (o p : Text → Bool) → ((a : Text) → o a ≡ true → p a ≡ true) → (es : Exs) → IsPlainIndex o es → IsPlainIndex p es
plain-more o p f no_exs h = tt
plain-more o p f (more_exs (number_ex n) es) h = plain-more o p f es h
plain-more o p f (more_exs (name_ex a) es) h = (f a h.0, plain-more o p f es h.1)
plain-more o p f (more_exs _ es) h = absurd h

-- ---- what a view offers

-- What a view offers stays in scope with more names.
pub item-grows : {x : Text} {t : Ex} {a : Alternative} → Laid x t a → (u v o p : Text → Bool) → ((c : Text) → u c ≡ true → v c ≡ true) →
    ((c : Text) → o c ≡ true → p c ≡ true) → Scoped none u o a.item → Scoped none v p a.item
item-grows {x} (that_occur s w i) u v o p f g h = f x h
item-grows {x} (but_the_dummy {js = js} s w i) u v o p f g h = (h.0, plain-more o p g (put_last js (name_ex x)) h.1)
item-grows {x} (in_all_slots {js = js} s w i) u v o p f g h = (h.0, plain-more o p g (put_last js (name_ex x)) h.1)
item-grows {x} (up_to_the_marker {js = js} s w i) u v o p f g h = (h.0, plain-more o p g (put_last js (name_ex x)) h.1)
item-grows {x} (where_flagged {js = js} s w i) u v o p f g h = (h.0, plain-more o p g (put_last js (name_ex x)) h.1)

module _ (x : Text) (s : Scope) (n : IsTrue (not (s.all x))) (within : Within s) where
  -- The scope behind x over a domain.
  abbrev pub here : Scope
  here = behind_domain s (name_pat x)

  there : Within here
  there = within-domain s (name_pat x) within

  -- The indices behind x, and with x behind them.
  index : (es : Exs) → IsPlainIndex s.over_domains es → IsPlainIndex here.over_domains es
  index es h = plain-more s.over_domains here.over_domains (λ a k. left-true (s.over_domains a) (is_bound (name_pat x) a) k) es h

  index-last : {es : Exs} → Steps es → IsPlainIndex s.over_domains es → IsPlainIndex here.over_domains (put_last es (name_ex x))
  index-last {es} i h = last-plain here.over_domains x (bound x s.over_domains) i (index es h)

  cell-last : {es : Exs} → Steps es → IsPlainIndex s.over_domains es →
      ScopedExs none here.all here.over_domains (put_last es (name_ex x))
  cell-last {es} i h = last-scoped here there x (bound x s.all) i (index es h)

  -- The item is in scope behind x.
  pub item-scoped : {t : Ex} {a : Alternative} → Laid x t a → Scoped none s.all s.over_domains t →
      Scoped none here.all here.over_domains a.item
  item-scoped (that_occur v w i) h = bound x s.all
  item-scoped (but_the_dummy v w i) h = (written-names w _ _, index-last i h.1)
  item-scoped (in_all_slots v w i) h = (written-names w _ _, index-last i h.1)
  item-scoped (up_to_the_marker v w i) h = (written-names w _ _, index-last i h.1)
  item-scoped (where_flagged v w i) h = (written-names w _ _, index-last i h.1)

  -- So are the generators, and what is in scope behind x is so behind them.
  pub gens-scoped : {t : Ex} {a : Alternative} → Laid x t a → Scoped none s.all s.over_domains t → (hs : Gens)
      (K : (Text → Bool) → (Text → Bool) → Type 0) → ScopedGens none here.all here.over_domains hs K →
      ScopedGens none s.all s.over_domains (append_gens a.gens hs) K
  gens-scoped (that_occur v w i) h hs K k = (n, written-scoped w s.all s.over_domains, (cell-last i h.1, k))
  gens-scoped (but_the_dummy {ms = ms} {es = es} {d = d} v w i) h hs K k = (
    n,
    slots-scoped (slots_ex (set_dom ms es d)) (slots-fine ms v w) s.all s.over_domains,
    ((cell-last i h.1, (term-scoped (dummy-fine w) here.all here.over_domains, tt)), k),
  )
  gens-scoped (in_all_slots {ms = ms} {es = es} {d = d} v w i) h hs K k =
      (n, slots-scoped (slots_ex (set_dom ms es d)) (slots-fine ms v w) s.all s.over_domains, k)
  gens-scoped (up_to_the_marker {ms = ms} {es = es} {js = js} {d = d} v w i) h hs K k = (
    n,
    slots-scoped (slots_ex (set_dom ms es d)) (slots-fine ms v w) s.all s.over_domains,
    ((bound x s.all, (steps-scoped here there i (index js h.1), tt)), k),
  )
  gens-scoped (where_flagged {ms = ms} {es = es} {d = d} v w i) h hs K k = (
    n,
    slots-scoped (slots_ex (set_dom ms es d)) (slots-fine ms v w) s.all s.over_domains,
    (cell-last i h.1, k),
  )
