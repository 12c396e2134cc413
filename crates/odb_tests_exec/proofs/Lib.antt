mod LiveRunLemmas
