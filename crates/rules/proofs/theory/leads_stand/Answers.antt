use Rattle.rules.proofs.Leads.{largest_exactly, no_largest, open_exactly, lead_decided}
use Rattle.rules.proofs.theory.leads_stand.Goals as goal

pub returns : goal.returns
returns c = record {
  distance = largest_exactly;
  none = no_largest;
  opens = open_exactly;
  decided = lead_decided;
}
