-- Lettings of the declared names, each once and in order: none is missing, none is one too many, and each name has its own.
use Rattle.std.proofs.Common.{◌≡◌, refl, ap, ◌∙◌, true, false, ◌||◌, not, if◌then◌else◌, List, [], ◌∷◌, map, Some, None}
use Rattle.std.proofs.lemmas.Bool.{and_parts}
use Rattle.ess_semantics.specs.Values.{Text}
use Rattle.ess_semantics.specs.Order.{same_text}
use Rattle.ess_semantics.specs.Names.{Names, look, keys, is_among, all_distinct, without}
use Rattle.ess_semantics.specs.DeclaredTables.{TableDecl}
use Rattle.ess_semantics.proofs.Texts.{same_text-itself, same_text-either}
use Rattle.ess_semantics.proofs.Tests.{not-true, or-left-no, or-right-no, or-yes}
use Rattle.eprime_cells_laws.specs.TableReading.{first_missing, first_extra}

-- ---- none is missing

-- Each of the names is among these.
abbrev AllAmong : List Text → List TableDecl → Type 0
AllAmong ns [] = Unit {0}
AllAmong ns (d ∷ ds) = (is_among ns d.name ≡ true) × AllAmong ns ds

one-more-name : (a : Text) (ns : List Text) (ds : List TableDecl) → AllAmong ns ds → AllAmong (a ∷ ns) ds
one-more-name a ns [] h = tt
one-more-name a ns (d ∷ ds) h = (ap (λ i. same_text a d.name || i) h.0 ∙ or-yes (same_text a d.name), one-more-name a ns ds h.1)

own-names : (ds : List TableDecl) → AllAmong (map (λ d. d.name) ds) ds
own-names [] = tt
own-names (d ∷ ds) = (
  ap (λ i. i || is_among (map (λ d. d.name) ds) d.name) (same_text-itself d.name),
  one-more-name d.name (map (λ d. d.name) ds) ds (own-names ds),
)

all-there : (ns : List Text) (ds : List TableDecl) → AllAmong ns ds → first_missing ds ns ≡ None
all-there ns [] h = refl
all-there ns (d ∷ ds) h = ap (λ i. if i then first_missing ds ns else Some d.name) h.0 ∙ all-there ns ds h.1

pub none-missing : (ds : List TableDecl) → first_missing ds (map (λ d. d.name) ds) ≡ None
none-missing ds = all-there (map (λ d. d.name) ds) ds (own-names ds)

-- ---- none is one too many

without-other : (a : Text) (ns : List Text) → is_among ns a ≡ false → without a ns ≡ ns
without-other a [] h = refl
without-other a (n ∷ ns) h =
    ap (λ i. if not i then n ∷ without a ns else without a ns) (or-left-no (same_text n a) (is_among ns a) h)
    ∙ ap (λ l. n ∷ l) (without-other a ns (or-right-no (same_text n a) (is_among ns a) h))

pub none-extra : (ns : List Text) → all_distinct ns ≡ true → first_extra ns ns ≡ None
none-extra [] h = refl
none-extra (a ∷ ns) h =
    let parts = and_parts (not (is_among ns a)) (all_distinct ns) h in
    let rest : without a (a ∷ ns) ≡ ns =
    ap (λ i. if not i then a ∷ without a ns else without a ns) (same_text-itself a)
    ∙ without-other a ns (not-true (is_among ns a) parts.0) in
    ap (λ i. if i || is_among ns a then first_extra (without a (a ∷ ns)) ns else Some a) (same_text-itself a)
    ∙ ap (λ left. first_extra left ns) rest ∙ none-extra ns parts.1

-- ---- each name has its own

-- Each entry of the second map is found in the first.
abbrev pub AllFound : {A : Type 0} → Names A → Names A → Type 0
AllFound all [] = Unit {0}
AllFound all (c ∷ cs) = (look all c.0 ≡ Some c.1) × AllFound all cs

behind-other : {A : Type 0} (b : Text × A) (all cs : Names A) → is_among (keys cs) b.0 ≡ false → AllFound all cs → AllFound (b ∷ all) cs
behind-other b all [] h f = tt
behind-other b all (c ∷ cs) h f =
    let apart = same_text-either b.0 c.0 ∙ or-left-no (same_text c.0 b.0) (is_among (keys cs) b.0) h in (
      ap (λ i. if i then Some b.1 else look all c.0) apart ∙ f.0,
      behind-other b all cs (or-right-no (same_text c.0 b.0) (is_among (keys cs) b.0) h) f.1,
    )

pub all-found : {A : Type 0} (cs : Names A) → all_distinct (keys cs) ≡ true → AllFound cs cs
all-found [] h = tt
all-found (c ∷ cs) h =
    let parts = and_parts (not (is_among (keys cs) c.0)) (all_distinct (keys cs)) h in (
      ap (λ i. if i then Some c.1 else look cs c.0) (same_text-itself c.0),
      behind-other c cs cs (not-true (is_among (keys cs) c.0) parts.0) (all-found cs parts.1),
    )
