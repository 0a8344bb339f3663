pub mod GeometryLemmas
