mod NameWays
