use Rattle.ess_offered_laws.proofs.ViewsListed.{views-listed}
use Rattle.ess_offered_laws.proofs.laws.views_have_listings.Goals as goal

pub returns : goal.returns
returns c = λ x y zs r d ns js f k w n. views-listed x y zs r d ns js f k w n
