pub mod UntoldLemmas
