mod Ways
