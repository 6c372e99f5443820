mod CauseWays
