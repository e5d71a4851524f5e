-- The refusals of a text before its grammar is looked at.
use Rattle.std.proofs.Common.{◌≡◌, refl, sym, ap, Bool, true, false, Option, Some, None}
use Rattle.std.specs.Option.{option_map}
use Rattle.ess_rows.specs.declared.place.Place.{Place}
use Rattle.ess_grammar.specs.Tokens.{or_else}
use Rattle.ess_lex.specs.declared.lexer.LexNo.{LexNo}
use Rattle.ess_parse.specs.declared.refusal.ReadNo.{ReadNo}
use Rattle.ess_parse.specs.Refusals.{lexer_no}

-- Whether it is one of these refusals.
abbrev pub is_first : ReadNo → Bool
is_first (ReadNo.Syntax p) = false
is_first ReadNo.NoMemory = false
is_first _ = true

-- The first refusal by its three parts.
abbrev pub first_of : Option LexNo → Option Place → Option Place → Option ReadNo
first_of o m n = or_else (option_map lexer_no o) (or_else (option_map (λ p. ReadNo.Unsupported p) m) (option_map (λ p. ReadNo.TooDeep p) n))

pub none-first : (o : Option LexNo) (m n : Option Place) → first_of o m n ≡ None → (o ≡ None) × (m ≡ None) × (n ≡ None)
none-first None None None h = (refl, refl, refl)
none-first None None (Some p) h = cc
none-first None (Some p) n h = cc
none-first (Some why) m n h = cc

pub first-none : (o : Option LexNo) (m n : Option Place) → o ≡ None → m ≡ None → n ≡ None → first_of o m n ≡ None
first-none None None None h i j = refl
first-none None None (Some p) h i j = cc
first-none None (Some p) n h i j = cc
first-none (Some why) m n h i j = cc

pub some-first : (o : Option LexNo) (m n : Option Place) (why : ReadNo) → first_of o m n ≡ Some why → is_first why ≡ true
some-first None None None why h = cc
some-first None None (Some p) why h = let k : ReadNo.TooDeep p ≡ why = cc in ap is_first (sym k)
some-first None (Some p) n why h = let k : ReadNo.Unsupported p ≡ why = cc in ap is_first (sym k)
some-first (Some (LexNo.BadByte p)) m n why h = let k : ReadNo.BadByte p ≡ why = cc in ap is_first (sym k)
some-first (Some (LexNo.WideNumber p)) m n why h = let k : ReadNo.WideNumber p ≡ why = cc in ap is_first (sym k)
