mod LeastWords
