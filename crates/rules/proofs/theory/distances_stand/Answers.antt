use Rattle.rules.proofs.Distances.{distances_decided, no_shortest_exactly, distance_alike, decided_from, sources_exactly, source_distances}
use Rattle.rules.proofs.theory.distances_stand.Goals as goal

pub returns : goal.returns
returns c = record {
  decided = distances_decided;
  rings = no_shortest_exactly;
  alike = distance_alike;
  sources = decided_from;
  exactly = sources_exactly;
  reached = source_distances;
}
