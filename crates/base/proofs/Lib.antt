mod BuffersLemmas
